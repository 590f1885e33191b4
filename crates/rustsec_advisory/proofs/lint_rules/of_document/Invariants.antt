use Rattle.std.proofs.Common.{◌≡◌, ◌++◌}
use Rattle.rustsec_advisory.specs.LintErrors.{top_rows}
use Rattle.rustsec_advisory.proofs.KeyOrder.{SectionsLeft}
use Rattle.rustsec_advisory.proofs.Members.{left}
use Rattle.rustsec_advisory.proofs.lint_rules.of_document.Given as goal

abbrev pub invariant-loop-key : goal.invariant-loop-key
invariant-loop-key l =
    (l.errors ++ left (top_rows l.draft l.advisory) l.key-iterator ≡ left (top_rows l.draft l.advisory) l.document.entries)
    × SectionsLeft l.key-iterator l.document.entries
