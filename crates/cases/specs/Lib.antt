-- The proof cases.
pub mod Cases
