pub mod Explained
pub mod Pair
pub mod Reasons
pub mod Reported
pub mod Wording
