-- `Answers`, `Cold` and `Check` have what the calls promise.
pub mod Answers
pub mod Cold
pub mod Check
