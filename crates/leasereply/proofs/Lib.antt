-- Laws that belong to no one function. Crates above cite the definitions through these.
pub mod ReplyLaws
pub mod Equations
