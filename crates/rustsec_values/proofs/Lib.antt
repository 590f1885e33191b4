pub mod Copies
pub mod Readers
pub mod Refusals
pub mod RefusedTexts
pub mod Seen
pub mod ShownTexts
