-- The definitions that the contracts cite.
pub mod Lease
pub mod Leading
