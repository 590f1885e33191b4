-- The binary search among gaps.
pub mod Halving
