use Rattle.std.proofs.Common.{IsPermutation, map}
use Rattle.std.specs.List.Sorted.{IsSortedByKey}
use Rattle.std.proofs.lemmas.Result.{err_from_is_err_and}
use Rattle.rustsec_versions.specs.interval.StartOrder.{start_order}
use Rattle.rustsec_versions.specs.acceptance.Lists.{Lists}
use Rattle.rustsec_versions.specs.acceptance.Sweep.{all_tagged}
use Rattle.rustsec_versions.proofs.lemmas.ranges.Agreement.{clash-refused, walk-IsComplementOf}
use Rattle.rustsec_versions.proofs.lemmas.acceptance.Clashes.{accepted-refused}
use Rattle.rustsec_values.proofs.Refusals.{refusal, refused_by}
use Rattle.rustsec_versions.proofs.versions.complement_of.Goals as goal

pub returns-in_err-all-clause-err : goal.returns-in_err-all-clause-err
returns-in_err-all-clause-err c =
    let lists : Lists = record { patched = c.args.patched.now; unaffected = c.args.unaffected.now } in
    let p = err_from_is_err_and c.from_residual.result c.from_residual.ensures.1 in
    rw (p.1, p.2) (refused_by _ c.in_err-all.field-0.0 (accepted-refused lists) c.in_err-all.ensures.err)

pub returns-clause-err : goal.returns-clause-err
returns-clause-err c =
    let lists : Lists = record { patched = c.args.patched.now; unaffected = c.args.unaffected.now } in
    let given = rw (c.deref.ensures.value, c.in_ok-all.ensures.ok) at c.in_ok-sorted.ensures.same in
    let same : IsPermutation (all_tagged lists) (map (λ x. x.now) c.deref-2.result.now) = rw c.deref-2.ensures.value given in
    let sorted : IsSortedByKey (λ x. x.now.interval.start) start_order c.deref-2.result.now = rw c.deref-2.ensures.value c.in_ok-sorted.ensures.sorted in
    let all = c.in_ok-all.ensures.admissible in
    let clash = (rw c.in-Err.is at c.in_ok-intervals.ensures.clash) lists all same sorted in
    refusal _ c.overlap_error.result (clash-refused lists all c.deref-2.result.now same sorted clash) c.overlap_error.ensures

pub returns-in-Ok-clause-ok : goal.returns-in-Ok-clause-ok
returns-in-Ok-clause-ok c =
    let lists : Lists = record { patched = c.args.patched.now; unaffected = c.args.unaffected.now } in
    let given = rw (c.deref.ensures.value, c.in_ok-all.ensures.ok) at c.in_ok-sorted.ensures.same in
    let same : IsPermutation (all_tagged lists) (map (λ x. x.now) c.deref-2.result.now) = rw c.deref-2.ensures.value given in
    let sorted : IsSortedByKey (λ x. x.now.interval.start) start_order c.deref-2.result.now = rw c.deref-2.ensures.value c.in_ok-sorted.ensures.sorted in
    let is = rw c.in-Ok.is at c.in_ok-intervals.ensures.merged in
    let fact = walk-IsComplementOf lists c.in_ok-all.ensures.admissible c.deref-2.result.now same sorted _ is in
    rw (c.shrink_to_fit.ensures.items, c.in_ok-complement-in-Ok.ensures, c.deref-in-Ok.ensures.value) fact
