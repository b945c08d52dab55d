pub mod Stout
