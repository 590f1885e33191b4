use Rattle.std.proofs.Common.{◌≡◌, ◌++◌}
use Rattle.rustsec_advisory.specs.LintErrors.{versions_rows}
use Rattle.rustsec_advisory.proofs.Members.{left}
use Rattle.rustsec_advisory.proofs.lint_rules.lint_versions.Given as goal

abbrev pub invariant-loop-key : goal.invariant-loop-key
invariant-loop-key l = l.errors ++ left (λ e. versions_rows e.0) l.key-iterator ≡ l.fn.errors ++ left (λ e. versions_rows e.0) l.table.entries
