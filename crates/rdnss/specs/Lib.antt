-- The definitions that the contracts cite. Area, Options and ServerList are those of the promise, Grammar and Claims say what follows from it, and Places is how the inner functions speak of the list.
pub mod Area
pub mod Options
pub mod ServerList
pub mod Places
pub mod Refusals
pub mod Grammar
pub mod Claims
