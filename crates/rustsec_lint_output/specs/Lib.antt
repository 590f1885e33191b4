pub mod LintText
pub mod LintTree
