-- Laws that belong to no one function. Crates above cite the definitions through these.
pub mod StageLaws
pub mod AnswerLaws
pub mod LeadLaws
pub mod JobLaws
