-- The claims, proved.
pub mod ListLaws
pub mod OrderLaws
pub mod Claims
pub mod Reaches
