pub mod Grids
pub mod Correlation
pub mod Added
pub mod Claims
