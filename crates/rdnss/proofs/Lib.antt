-- Laws that belong to no one function.
pub mod AddressLaws
pub mod AreaLaws
pub mod GrammarLaws
pub mod CallLaws
pub mod NamingLaws
pub mod KeepingLaws
pub mod GoodbyeLaws
pub mod Theorems
