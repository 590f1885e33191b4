pub mod Arrays
pub mod Columns
pub mod Ends
pub mod HeaderLaws
pub mod Kept
pub mod Once
pub mod Steps
