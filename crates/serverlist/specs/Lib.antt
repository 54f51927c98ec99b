-- The definitions that the contracts cite. Servers are those of the promises, and Places is how functions speak of the list's places.
pub mod Servers
pub mod Places
