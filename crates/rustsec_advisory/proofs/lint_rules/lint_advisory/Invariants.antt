use Rattle.std.proofs.Common.{◌≡◌, ◌++◌}
use Rattle.rustsec_advisory.specs.LintErrors.{advisory_rows}
use Rattle.rustsec_advisory.proofs.Members.{left}
use Rattle.rustsec_advisory.proofs.lint_rules.lint_advisory.Given as goal

abbrev pub invariant-loop-key : goal.invariant-loop-key
invariant-loop-key l = l.errors ++ left (advisory_rows l.linted.draft l.linted.advisory.now.metadata) l.key-iterator ≡ l.fn.errors ++ left (advisory_rows l.linted.draft l.linted.advisory.now.metadata) l.table.entries
