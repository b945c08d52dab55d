-- `Means` has means over the samples, `Ending` what is stored of an addition.
pub mod Means
pub mod Ending
