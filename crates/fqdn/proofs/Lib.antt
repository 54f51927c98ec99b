-- Laws that belong to no one function.
pub mod FlagLaws
pub mod AnswerLaws
pub mod RoomLaws
