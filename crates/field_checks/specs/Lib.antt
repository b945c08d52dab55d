-- `Situations` has the rows' tests and `Refusals` each call's rows.
pub mod Situations
pub mod Refusals
