-- The definitions that the contracts cite. Entries are those of the promises, and Places is how functions speak of the places of a list.
pub mod Entries
pub mod Places
