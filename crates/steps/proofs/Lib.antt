pub mod Moves
pub mod Spots
