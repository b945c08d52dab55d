pub mod Magnitude
pub mod Claims
