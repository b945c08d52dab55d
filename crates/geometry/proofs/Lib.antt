-- `Claims` proves what specs/Claims.antt names. Laws for callers: of the extents in `Shape`, of numbers and coordinates in `Radix`, of moves along an axis in `Steps`, of neighbours in `Neighbour`,
-- of the sites of a parity in `Order` and `Members`, of steps by number in `Stride`, of lists by a rule in `Range`. `Bounds` serves the functions' proofs.
pub mod Range
pub mod Radix
pub mod Shape
pub mod Steps
pub mod Stride
pub mod Neighbour
pub mod Order
pub mod Claims
pub mod Bounds
pub mod Members
