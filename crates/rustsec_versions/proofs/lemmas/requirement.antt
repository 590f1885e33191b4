-- What requirements state, and their texts.
pub mod MoreText
pub mod Parsed
pub mod Sound
pub mod Stated
