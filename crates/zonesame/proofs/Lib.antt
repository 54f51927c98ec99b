-- Laws that belong to no one function. Crates above cite the definitions through these.
pub mod HostLaws
pub mod PlacesLaws
pub mod SearchLaws
pub mod StandLaws
pub mod SameLaws
