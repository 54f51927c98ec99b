-- Laws that belong to no one function.
pub mod FingerprintLaws
pub mod SurveyLaws
pub mod WalkLaws
