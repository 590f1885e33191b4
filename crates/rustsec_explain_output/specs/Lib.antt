pub mod ExplainText
pub mod ExplainTree
pub mod ReasonWords
pub mod Rules
