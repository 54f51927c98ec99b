-- Laws that belong to no one function. Crates above cite the definitions through these.
pub mod StepLaws
pub mod NumberLaws
pub mod CarriedLaws
pub mod AfterLaws
pub mod LentLaws
