pub mod JsonTexts
pub mod Pieces
pub mod Places
pub mod PlainTexts
