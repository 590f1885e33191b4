pub mod Allowed
pub mod Entries
pub mod Listed
pub mod Names
pub mod Paths
pub mod ReadFailures
pub mod Seen
