pub mod Entries
pub mod Growth
pub mod Listing
pub mod Sorting
pub mod Walk
