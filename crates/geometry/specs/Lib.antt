-- `Radix` numbers the sites, `Shape` says which extents a field has, `Steps` has neighbours and parity, `Stride` the distances in number between neighbours, `Order` the sites of a parity, `Range` the numbers below a number;
-- `Claims` names what is proved of them.
pub mod Range
pub mod Radix
pub mod Shape
pub mod Steps
pub mod Stride
pub mod Order
pub mod Claims
