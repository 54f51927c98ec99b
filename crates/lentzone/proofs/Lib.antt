-- Laws that belong to no one function. Crates above cite the definitions through these.
pub mod DecodeLaws
pub mod CopyLaws
pub mod EncodeLaws
pub mod FormLaws
pub mod FreeLaws
pub mod NamedLaws
pub mod PlaceLaws
