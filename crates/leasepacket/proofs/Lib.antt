-- Laws that belong to no one function. Crates above cite the definitions through these.
pub mod OptionLaws
pub mod LayoutLaws
pub mod SentLaws
pub mod OccurrenceLaws
pub mod RequestedLaws
pub mod QueryLaws
pub mod ReadingLaws
pub mod Equations
