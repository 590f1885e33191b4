pub mod CheckJson
pub mod CheckText
pub mod CheckTree
pub mod JsonParts
