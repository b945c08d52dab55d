-- `Visits` has what becomes of a field when sites are visited, `Advance` what the functions ask of each other.
pub mod Visits
pub mod Advance
