-- Laws that belong to no one function. Crates above cite the definitions through these.
pub mod HostLaws
pub mod PlaceLaws
pub mod SpellingLaws
pub mod StayLaws
pub mod DecideLaws
pub mod AnswerLaws
pub mod PromiseLaws
pub mod RequestLaws
pub mod LentLaws
pub mod KindLaws
pub mod VisitLaws
