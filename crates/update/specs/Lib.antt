-- The rules, on the zone as names, owners and address sets.
pub mod Rules
-- What the structs mean, and the numbers of a request.
pub mod Meaning
-- How the names of a zone are spelled.
pub mod Spelling
