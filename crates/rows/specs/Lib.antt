-- `Refusals` has how a call's rows are tried and what it answers, `Numbers` each refusal's row, `Finite` row 10's tests.
pub mod Finite
pub mod Numbers
pub mod Refusals
