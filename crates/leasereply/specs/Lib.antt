-- The definitions that the contracts cite, and equations of them.
pub mod Reply
pub mod Equations
