-- Laws for callers: `UpdateLaws` says which links an update reads, and that it is a matrix of nine.
-- `ByRows` serves the functions' proofs.
pub mod ByRows
pub mod UpdateLaws
