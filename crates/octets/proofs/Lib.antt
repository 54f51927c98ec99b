-- Laws that belong to no one function. Crates above cite the definitions through these.
pub mod BoolLaws
pub mod CompareLaws
pub mod CountLaws
pub mod NumberLaws
pub mod WriteLaws
pub mod WordLaws
