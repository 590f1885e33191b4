use Rattle.std.proofs.Common.{refl}
use Rattle.std.proofs.lemmas.Result.{err_from_is_err_and}
use Rattle.rustsec_values.proofs.Refusals.{refused_by}
use Rattle.rustsec_versions.proofs.lemmas.acceptance.Admission.{admissible-append, refused-left, refused-right}
use Rattle.rustsec_versions.proofs.acceptance.tagged.tagged_intervals.Goals as goal

pub returns-in_err-add_tagged-clause-err : goal.returns-in_err-add_tagged-clause-err
returns-in_err-add_tagged-clause-err c =
    let p = err_from_is_err_and c.from_residual.result c.from_residual.ensures.1 in
    let bad = rw c.as_slice-patched.ensures at c.in_err-add_tagged.ensures.err in
    rw (p.1, p.2) (refused_by _ c.in_err-add_tagged.field-0.0 (refused-left c.args.patched.now c.args.unaffected.now) bad)

pub returns-in_err-add_tagged-2-clause-err : goal.returns-in_err-add_tagged-2-clause-err
returns-in_err-add_tagged-2-clause-err c =
    let p = err_from_is_err_and c.from_residual-in_err-add_tagged-2.result c.from_residual-in_err-add_tagged-2.ensures.1 in
    let bad = rw c.as_slice-unaffected.ensures at c.in_err-add_tagged-2.ensures.err in
    rw (p.1, p.2) (refused_by _ c.in_err-add_tagged-2.field-0.0 (refused-right c.args.patched.now c.args.unaffected.now) bad)

pub returns-clause-ok : goal.returns-clause-ok
returns-clause-ok c =
    rw (c.in_ok-add_tagged-2.ensures.ok, c.in_ok-add_tagged.ensures.ok, c.new-intervals.ensures.items, c.as_slice-patched.ensures, c.as_slice-unaffected.ensures) refl

pub returns-clause-admissible : goal.returns-clause-admissible
returns-clause-admissible c =
    let p = rw c.as_slice-patched.ensures at c.in_ok-add_tagged.ensures.admissible in
    let u = rw c.as_slice-unaffected.ensures at c.in_ok-add_tagged-2.ensures.admissible in
    rw (admissible-append c.args.patched.now c.args.unaffected.now, p, u) refl
