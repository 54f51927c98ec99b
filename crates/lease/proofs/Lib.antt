-- Laws that belong to no one function. Crates above cite the definitions through these.
pub mod FormLaws
pub mod LeadingLaws
pub mod KeyLaws
pub mod ArrayLaws
pub mod ListLaws
pub mod OrderLaws
pub mod ZeroLaws
