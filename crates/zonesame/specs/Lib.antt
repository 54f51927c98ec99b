-- What it is for two zones to be the same.
pub mod Same
-- For the contracts of inner functions; no promise of an exported call cites these.
pub mod Inner
