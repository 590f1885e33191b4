pub mod Candidates
pub mod Edges
pub mod Entries
pub mod Graph
pub mod Paths
pub mod Reverse
pub mod Search
pub mod Words
