-- The definitions that the contracts cite.
pub mod Lines
-- For the contracts of inner functions; no contract of a pub fn cites it.
pub mod Inner
