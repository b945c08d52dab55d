-- `Rounded` has the operations on f64, `Complex` and `Row` what is made of them by formulas, `Constants` what the constants are, `Numbers` a pair in a list.
pub mod Rounded
pub mod Complex
pub mod Row
pub mod Constants
pub mod Numbers
