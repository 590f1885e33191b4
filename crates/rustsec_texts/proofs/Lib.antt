pub mod Beginning
pub mod Colons
pub mod Cutting
pub mod Dashes
pub mod FileParts
pub mod Numerals
pub mod OtherNames
pub mod Slices
