-- What each command over files writes: its output, and why it is refused.
pub mod Answer
pub mod Audit
pub mod Lint
pub mod Osv
pub mod Reports
