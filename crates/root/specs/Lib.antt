-- `Root` has the whole part of a root, `Sqrt` the root of an f64, `Nearest` what IEEE 754 asks of one; `Parts` is cited by contracts inside the crate.
pub mod Root
pub mod Sqrt
pub mod Parts
pub mod Nearest
