-- `Line` has distances, `Staircase` the steps, `Codes` steps as bytes, `Offsets` which offsets are in reach, `Quarks` the numbers of those that are; `Claims` names what is proved of them.
pub mod Line
pub mod Offsets
pub mod Quarks
pub mod Staircase
pub mod Codes
pub mod Claims
