pub mod EscapedTexts
pub mod Mapped
pub mod MoreDrawn
pub mod NoMarks
pub mod Once
