-- `Nearest` proves that `sqrt_of` is IEEE 754's square root, and that nothing else is. `WholeRoot` has the laws of a root's whole part. The others serve these and the functions' proofs:
-- `Patterns` and `Cases` go from bit patterns to values, `PatternParts`, `Scaling` and `Assemble` follow a value to its root's pattern, `Digits` is the loop of `root54`.
pub mod Arith
pub mod WholeRoot
pub mod Scaling
pub mod PatternParts
pub mod Patterns
pub mod Assemble
pub mod Cases
pub mod Nearest
pub mod Digits
