-- The definitions that the contracts cite.
pub mod Reply
pub mod Reading
pub mod Promise
pub mod Stages
