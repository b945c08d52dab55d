-- `Epsilon` has the contraction of three matrices, `Baryon` the loop of three quarks.
pub mod Epsilon
pub mod Baryon
