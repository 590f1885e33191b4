-- Requirements: the intervals that they state, and their texts.
pub mod Requirement
pub mod RequirementText
