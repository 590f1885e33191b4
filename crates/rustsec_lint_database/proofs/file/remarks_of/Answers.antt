use Rattle.rustsec_lint_database.proofs.Said.{three}
use Rattle.rustsec_lint_database.proofs.file.remarks_of.Goals as goal

pub returns : goal.returns
returns c =
    rw (← c.advisory-advisory.ensures, ← c.errors.ensures)
    (three _ _ _ _ _ _ _ c.new-remarks.ensures c.in_ok-push_lints.ensures c.in_ok-push_placement.ensures c.in_ok-push_upstream.ensures)
