use Rattle.std.proofs.Common.{inr, refl, subst, sym}
use Rattle.std.proofs.lemmas.Result.{err_from_is_err_and}
use Rattle.rustsec_advisory.proofs.KnownKeys.{keys-known}
use Rattle.rustsec_advisory.proofs.Unique.{document_unique, lints_unique}
use Rattle.rustsec_advisory.specs.KeyOrder.{DocumentRises}
use Rattle.rustsec_advisory.proofs.linter.Linter.lint_string.Goals as goal

pub returns-in_err-errors-clause-err : goal.returns-in_err-errors-clause-err
returns-in_err-errors-clause-err c =
    let p = err_from_is_err_and c.from_residual-in_err-errors.result c.from_residual-in_err-errors.ensures.1 in
    rw (p.1, p.2) (inr c.in_err-errors.ensures.err)

pub returns-clause-only : goal.returns-clause-only
returns-clause-only c b fs k =
    lints_unique _ _ b _ fs _ k
    (record { document = _; is_advisory = c.in_ok-advisory.ensures.ok; errors_are = c.in_ok-errors.ensures.ok })

pub returns-clause-keys : goal.returns-clause-keys
returns-clause-keys c = keys-known _ _ refl refl

pub returns-clause-ordered : goal.returns-clause-ordered
returns-clause-ordered c d is =
    let same = document_unique _ d _ _ _ is c.in_ok-advisory.ensures.ok in
    subst DocumentRises (sym same) c.in_ok-errors.ensures.ordered
