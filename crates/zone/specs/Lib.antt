-- What names and the places of a zone mean, and their form.
pub mod Meaning
-- For the contracts of the walk; no promise of an exported call cites these.
pub mod Survey
