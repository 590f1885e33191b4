-- The ranges that accepted lists leave affected.
pub mod AcceptedRanges
pub mod Between
pub mod Complement
pub mod Ranges
