-- The rules of jobs, on the zone as names, owners and address sets.
pub mod Jobs
-- What the structs mean.
pub mod Meaning
-- What each call for a new job promises.
pub mod Promise
-- For the contracts of functions that are not exported.
pub mod Inner
