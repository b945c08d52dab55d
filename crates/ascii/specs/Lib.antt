-- `Lines` has words and numbers as text and lines of two columns.
pub mod Lines
