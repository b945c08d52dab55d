pub mod Corners
pub mod Locality
pub mod Sums
