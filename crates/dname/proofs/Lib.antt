-- Laws that belong to no one function. Crates above cite the definitions through these.
pub mod NameLaws
pub mod KeyLaws
pub mod CompletionLaws
pub mod GrammarLaws
pub mod ReadingLaws
pub mod PlaceLaws
