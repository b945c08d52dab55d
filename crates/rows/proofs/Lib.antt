pub mod Finite
pub mod Refusals
