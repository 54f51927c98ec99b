-- Laws that belong to no one function. Crates above cite the definitions through these.
pub mod ZoneLaws
pub mod BareLaws
pub mod PrerequisiteLaws
pub mod NumberLaws
