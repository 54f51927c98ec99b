-- What each exported call promises.
pub mod Promise
-- For the contracts of inner functions; no promise of an exported call cites these.
pub mod Answers
pub mod Inner
-- The same for a zone that is lent.
pub mod Lent
