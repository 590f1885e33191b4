pub mod Complete
pub mod Lists
pub mod OneField
pub mod Reported
