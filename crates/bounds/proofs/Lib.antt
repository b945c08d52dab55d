-- Laws for callers: `Numbers` for f64, `Matrices` for complex numbers and matrices, `Lists` for the matrices that a list holds. `magnitude-f` bounds what f gives.
pub mod Numbers
pub mod Matrices
pub mod Lists
