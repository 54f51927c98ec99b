-- Laws that belong to no one function. Crates above cite the definitions through these.
pub mod FormLaws
pub mod ClientLaws
pub mod CandidateLaws
pub mod LookLaws
pub mod InsertLaws
pub mod InsertingLaws
pub mod Scan
pub mod ScanWalk
