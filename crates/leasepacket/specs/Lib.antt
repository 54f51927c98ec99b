-- The definitions that the contracts cite. Reading is for the contracts of `query::read` and `requested::read`, Places for those of functions that only this crate calls.
pub mod Packet
pub mod Options
pub mod Layout
pub mod Grammar
pub mod Occurrence
pub mod Requested
pub mod ReplyOptions
pub mod Query
pub mod Reading
pub mod Places
