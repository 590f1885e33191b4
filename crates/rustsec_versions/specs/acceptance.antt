-- Which lists of requirements are accepted, and which intervals are merged.
pub mod FirstClash
pub mod Lists
pub mod Merged
pub mod Sweep
