-- `Grid` has a grid's extents, `Situations` when a call is refused, `Means` and `Sums` what is worked out, `Calls` what each call answers and stores; `Parts` what the functions ask of each other, `Claims` what follows.
pub mod Grid
pub mod Situations
pub mod Means
pub mod Sums
pub mod Calls
pub mod Parts
pub mod Claims
