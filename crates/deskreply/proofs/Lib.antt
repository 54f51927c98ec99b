-- Laws that belong to no one function.
pub mod ReplyLaws
pub mod ReadingLaws
