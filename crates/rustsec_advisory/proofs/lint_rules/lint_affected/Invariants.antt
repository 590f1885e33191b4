use Rattle.std.proofs.Common.{◌≡◌, ◌++◌}
use Rattle.rustsec_advisory.specs.LintErrors.{affected_rows}
use Rattle.rustsec_advisory.proofs.Members.{left}
use Rattle.rustsec_advisory.proofs.lint_rules.lint_affected.Given as goal

abbrev pub invariant-loop-key : goal.invariant-loop-key
invariant-loop-key l = l.errors ++ left (λ e. affected_rows l.advisory e.0) l.key-iterator ≡ l.fn.errors ++ left (λ e. affected_rows l.advisory e.0) l.table.entries
