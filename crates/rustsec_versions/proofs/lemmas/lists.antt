-- Laws of lists.
pub mod Compared
pub mod Contained
pub mod Shuffled
