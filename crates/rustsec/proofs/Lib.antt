pub mod Acceptance
pub mod Answers
pub mod Refusals
pub mod Taken
