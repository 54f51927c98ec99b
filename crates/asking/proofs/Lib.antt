-- What a step does to whether a name stands.
pub mod NameLaws
-- Lists of steps that reach the bounds.
pub mod RoundSteps
pub mod Rounds
pub mod Reached
-- What an add's stage tells of deletions, and the bounds.
pub mod Telling
pub mod Bounds
