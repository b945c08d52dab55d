-- `Slices` has the sums that accumulation takes, `Parts` a slice's sum row by row and what the functions ask of each other, `Claims` what follows.
pub mod Slices
pub mod Parts
pub mod Claims
