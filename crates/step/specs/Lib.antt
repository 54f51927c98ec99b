-- What the step promises.
pub mod Promise
pub mod Lent
-- For the contracts of inner functions; no promise of an exported call cites these.
pub mod Inner
