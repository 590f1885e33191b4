pub mod Beginnings
pub mod ClosedTables
pub mod Equality
pub mod Failure
pub mod Reading
pub mod Refusals
pub mod Shown
