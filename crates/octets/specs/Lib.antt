-- The definitions that the contracts cite.
pub mod Compare
pub mod Count
pub mod Number
pub mod Write
-- For the contracts of inner functions; no promise of an exported call cites these.
pub mod Word
