pub mod Documents
pub mod Once
pub mod Parts
