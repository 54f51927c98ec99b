-- The definitions that the contracts cite.
pub mod Flags
pub mod Answer
