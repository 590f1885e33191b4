use Rattle.std.proofs.Common.{inl, inr}
use Rattle.std.proofs.lemmas.Result.{err_from_is_err_and}
use Rattle.rustsec_program.proofs.Before.{index-before, index-refused-before}
use Rattle.rustsec_program.proofs.locked.with_others.Goals as goal

pub returns-in_err-baseline-clause-err : goal.returns-in_err-baseline-clause-err
returns-in_err-baseline-clause-err g c =
    let p = err_from_is_err_and c.from_residual.result c.from_residual.ensures.1 in
    rw (p.1, p.2) (inl c.in_err-baseline.ensures.err)

pub returns-in_err-yanked-clause-err : goal.returns-in_err-yanked-clause-err
returns-in_err-yanked-clause-err g c =
    let p = err_from_is_err_and c.from_residual-in_err-yanked.result c.from_residual-in_err-yanked.ensures.1 in
    let refused = rw c.packages.ensures at c.in_err-yanked.ensures.err in
    rw (p.1, p.2) (inr (_, (c.in_ok-baseline.ensures.ok, index-refused-before _ _ c.baseline_at.ensures.same _ _ c.in_err-yanked.field-0.0 refused)))

pub returns-clause-yanked : goal.returns-clause-yanked
returns-clause-yanked g c =
    let yanked = rw c.packages.ensures at c.in_ok-yanked.ensures.ok in
    index-before _ _ c.baseline_at.ensures.same _ _ _ yanked
