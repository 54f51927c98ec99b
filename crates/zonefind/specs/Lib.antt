-- What the exported call promises, and that this is what the zone means.
pub mod Find
-- For the contracts of inner functions; no promise of an exported call cites these.
pub mod Inner
