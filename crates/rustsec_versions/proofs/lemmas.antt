-- Lemmas, in the same rooms as the code.
pub mod acceptance
pub mod interval
pub mod lists
pub mod order
pub mod ranges
pub mod requirement
pub mod search
