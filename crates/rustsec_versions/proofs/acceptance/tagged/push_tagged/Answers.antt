use Rattle.std.proofs.Common.{refl}
use Rattle.std.proofs.lemmas.Result.{err_from_is_err_and}
use Rattle.rustsec_values.proofs.Refusals.{refused_by}
use Rattle.rustsec_versions.proofs.acceptance.tagged.push_tagged.Goals as goal

pub returns-in_err-interval-clause-err : goal.returns-in_err-interval-clause-err
returns-in_err-interval-clause-err c =
    let p = err_from_is_err_and c.from_residual.result c.from_residual.ensures.1 in
    rw (p.1, p.2) (refused_by _ c.in_err-interval.field-0.0 (λ none. rw none refl) c.in_err-interval.ensures.err)
