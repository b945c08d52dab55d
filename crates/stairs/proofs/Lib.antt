pub mod Whole
pub mod Best
pub mod Places
pub mod Arrives
pub mod Bytes
mod Padded
