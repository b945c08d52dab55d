-- `Laws` are for a caller that goes over the slices, `Space` has places of space by their coordinates, `Claims` proves what specs/Claims.antt names. The others serve the functions' proofs.
pub mod Laws
pub mod Space
pub mod Claims
pub mod Filled
pub mod RowInTwo
pub mod SliceInRows
pub mod SliceAdded
pub mod SumsSoFar
