pub mod LintPlain
