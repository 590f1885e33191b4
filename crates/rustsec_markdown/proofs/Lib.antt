pub mod EscapedTexts
pub mod Fits
pub mod Harmless
pub mod Lengths
pub mod Pieces
