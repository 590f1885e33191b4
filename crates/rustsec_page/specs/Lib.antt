pub mod Escaped
pub mod Findings
pub mod Lines
pub mod Links
pub mod Lists
pub mod Page
pub mod Pieces
pub mod Templates
