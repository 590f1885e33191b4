pub mod Codecs
pub mod Fields
pub mod Lines
pub mod TextCodecs
pub mod Trees
