pub mod Commands
pub mod Lint
pub mod Options
pub mod Osv
pub mod Stats
pub mod Steps
pub mod Words
