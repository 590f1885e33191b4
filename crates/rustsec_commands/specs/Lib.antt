pub mod Commands
pub mod Output
pub mod args
pub mod command
pub mod input
