use Rattle.std.proofs.Common.{◌≡◌, ◌∙◌, ◌++◌, Bool, Result, Ok, Err, [], IsPermutation, false, is_ok, map, sym, true}
use Rattle.std.specs.Prelude.{IfErr, IfOk}
use Rattle.std.specs.List.Sorted.{IsSortedByKey}
use Rattle.rustsec_versions.specs.acceptance.Lists.{Lists}
use Rattle.rustsec_versions.specs.acceptance.Sweep.{all_tagged}
use Rattle.rustsec_versions.specs.interval.StartOrder.{start_order}
use Rattle.rustsec_versions.proofs.lemmas.acceptance.Admission.{tagged-append}
use Rattle.rustsec_versions.proofs.lemmas.ranges.Agreement.{apart-sorted, first-unclear, walk-clear}
use Rattle.rustsec_versions.proofs.versions.apart.are_apart.Goals as goal

-- a test that a value and an error decide
decided : {V P : Type 0} {Q : V → Type 0} {R : P → Type 0} (o : Result V P) (b : Bool) → IfOk o Q → IfErr o R → ((v : V) → Q v → b ≡ true) → ((p : P) → R p → b ≡ false)
    → is_ok o ≡ b
decided (Ok v) b q r some none = sym (some v q)
decided (Err p) b q r some none = sym (none p r)

pub returns : goal.returns
returns c =
    let lists : Lists = record { patched = []; unaffected = c.args.patched.now ++ c.args.unaffected.now } in
    let given = rw c.deref.ensures.value at c.in_ok-sorted.ensures.same in
    let same : IsPermutation (all_tagged lists) (map (λ x. x.now) c.deref-2.result.now) =
    rw (c.deref-2.ensures.value, tagged-append false c.args.patched.now c.args.unaffected.now, ← c.in-Ok.ensures.ok) given in
    let sorted : IsSortedByKey (λ x. x.now.interval.start) start_order c.deref-2.result.now = rw c.deref-2.ensures.value c.in_ok-sorted.ensures.sorted in
    let xs = c.deref-2.result.now in
    let all = c.in-Ok.ensures.admissible in
    let apart = apart-sorted (c.args.patched.now ++ c.args.unaffected.now) xs same in
    c.is_ok.ensures.value
    ∙ decided c.in_ok-merged.merged _ c.in_ok-merged.ensures.merged c.in_ok-merged.ensures.clash
    (λ v is. apart ∙ walk-clear lists all xs same sorted _ is) (λ p clash. apart ∙ first-unclear (clash lists all same sorted))
