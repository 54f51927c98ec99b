pub mod TextLaws
pub mod WritingLaws
