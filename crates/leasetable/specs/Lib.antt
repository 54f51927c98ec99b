-- The definitions that the contracts cite. Folds is for those of the scans and of what puts them together, none of which is exported.
pub mod Table
pub mod Folds
