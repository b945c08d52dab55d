pub mod Contraction
