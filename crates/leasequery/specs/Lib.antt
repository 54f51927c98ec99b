-- The definitions that the contracts cite. Stages is for the contracts of functions that are not exported.
pub mod Answer
pub mod Promise
pub mod Stages
