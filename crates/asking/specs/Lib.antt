-- The requests of an add, the deletions of its name between them, and the bounds.
pub mod Asking
-- That the bounds are reached.
pub mod Reached
