pub mod Escaped
pub mod MarkdownText
