-- Laws that belong to no one function. Crates above cite the definitions through these.
pub mod CountedLaws
pub mod ChangeLaws
pub mod SetLaws
pub mod ListLaws
