-- `Laws` has bytes laid one after the other, `Counted` how many digits a number has.
pub mod Laws
pub mod Counted
