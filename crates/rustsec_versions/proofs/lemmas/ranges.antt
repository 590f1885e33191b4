-- The ranges between merged intervals.
pub mod Agreement
pub mod AreRanges
pub mod Adjacent
pub mod Complement
pub mod OwnOrder
pub mod RangeEnds
pub mod RangeList
pub mod Unique
pub mod Walk
