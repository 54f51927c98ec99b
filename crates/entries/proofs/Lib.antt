-- Laws that belong to no one function. Crates above cite the definitions through these.
pub mod EntryLaws
pub mod PlaceLaws
pub mod MarkLaws
pub mod PackLaws
pub mod FormLaws
pub mod SoundLaws
pub mod ChainLaws
pub mod EightLaws
pub mod InsertLaws
pub mod MomentLaws
pub mod LibraryLaws
pub mod ComparedLaws
