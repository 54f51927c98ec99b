-- The definitions that the contracts cite.
pub mod Name
-- The same rule as a grammar, for the reader: a theorem says that the two agree.
pub mod Grammar
-- What folding leaves of a name.
pub mod Folding
-- What the inner functions say.
pub mod Reading
