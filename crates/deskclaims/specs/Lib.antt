-- The claims, and the words they are made of.
pub mod Asks
pub mod RoundTrip
pub mod Listed
