-- Matrices by entries; `Numbers` has a matrix as eighteen numbers.
pub mod Matrix
pub mod Product
pub mod Unitary
pub mod Traceless
pub mod Exponential
pub mod Numbers
