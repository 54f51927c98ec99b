-- The proof that the cases hold.
pub mod CasesHold
