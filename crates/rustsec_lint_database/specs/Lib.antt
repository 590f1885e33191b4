pub mod Counts
pub mod Entries
pub mod Files
pub mod Firsts
pub mod Placement
pub mod Remarks
pub mod Upstream
