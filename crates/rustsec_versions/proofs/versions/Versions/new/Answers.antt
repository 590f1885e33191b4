use Rattle.std.proofs.lemmas.Result.{err_from_is_err_and}
use Rattle.rustsec_versions.proofs.versions.Versions.new.Goals as goal

pub returns-in_err-complement-clause-err : goal.returns-in_err-complement-clause-err
returns-in_err-complement-clause-err c =
    let p = err_from_is_err_and c.from_residual.result c.from_residual.ensures.1 in
    let bad = rw (c.from-patched.ensures, c.from-unaffected.ensures) at c.in_err-complement.ensures.err in
    rw (p.1, p.2) bad

pub returns-clause-accepted : goal.returns-clause-accepted
returns-clause-accepted c = (rw (c.from-patched.ensures, c.from-unaffected.ensures) at c.in_ok-complement.ensures.ok).ranges.ranges.accepts
