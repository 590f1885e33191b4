pub mod Counted
pub mod Once
pub mod OptionWords
pub mod OsvWords
pub mod Outputs
pub mod StatsPlain
pub mod Written
