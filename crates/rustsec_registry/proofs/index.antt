pub mod Asked
pub mod Before
pub mod Entries
pub mod Found
pub mod Names
pub mod Once
pub mod Readings
pub mod Ways
