pub mod Choices
pub mod Entries
pub mod Keys
pub mod Nearest
pub mod Notes
pub mod Policies
