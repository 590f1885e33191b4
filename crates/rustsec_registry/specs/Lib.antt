pub mod Lookups
pub mod Packages
pub mod Yanked
pub mod index
