-- `Field` has the field of a list, the list of a field and what the functions ask for; the others define, over the field function U, what they compute, and `Staple` also which links are read.
-- `Paired` has how the code holds the staples' sum.
pub mod Field
pub mod Plaquette
pub mod Paired
pub mod Staple
pub mod Polyakov
