-- The definitions that the contracts cite, and what follows from them.
pub mod Text
pub mod Claims
-- For the contracts of inner functions; no contract of a pub fn cites it.
pub mod Inner
