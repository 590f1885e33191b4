-- Lemmas, in the same rooms as the code.
pub mod Once
pub mod args
pub mod command
pub mod input
