-- `Quaternion` goes by formulas, `Subgroup` by the entries of matrices, with the calls that can refuse; `Constants` has what the table of subgroups holds, `Numbers` both as arrays.
pub mod Quaternion
pub mod Subgroup
pub mod Constants
pub mod Numbers
