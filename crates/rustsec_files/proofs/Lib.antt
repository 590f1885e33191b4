pub mod FileNames
pub mod InOrder
pub mod ListFailures
pub mod Lists
pub mod Once
pub mod Same
pub mod Segments
pub mod Shown
