-- The struct that lent octets hold, and the octets of a struct.
pub mod Decode
pub mod Encode
-- For the contracts of inner functions; no promise of an exported call cites these.
pub mod Inner
