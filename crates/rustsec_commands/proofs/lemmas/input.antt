-- The lines of an input, one after the other.
pub mod Turns
