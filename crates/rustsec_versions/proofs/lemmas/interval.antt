-- Laws of bounds and intervals.
pub mod Bounds
pub mod Cuts
