-- `Clover` and `Densities` define, over the field function U, what the functions compute; `Claims` says which links it depends on, and what holds of the sums.
pub mod Clover
pub mod Densities
pub mod Claims
