use Rattle.std.proofs.Common.{◌≡◌, Bool, Ok, Err, Some, None, true, false, refl, sym}
use Rattle.std.specs.Prelude.{IfErr, IfOk, OnErr, OnOk, Result}
use Rattle.rustsec_values.specs.Reading.{only_if}
use Rattle.rustsec_values.specs.Failure.{Failure, IsRefusal}
use Rattle.rustsec_versions.specs.interval.Interval.{Interval}
use Rattle.rustsec_versions.specs.Views.{comparators_of}
use Rattle.rustsec_values.specs.declared.error.ErrorKind.{ErrorKind}
use Rattle.rustsec_values.proofs.Refusals.{refused_by}
use Rattle.rustsec_versions.proofs.lemmas.requirement.Sound.{interval_of-stated}
use Rattle.rustsec_versions.proofs.interval.admissible_interval.Goals as goal

made_under : (r : Result Interval Failure) (b : Bool) (i : Interval) → IfOk r (λ x. x ≡ i) → OnOk r (b ≡ true)
    → IfOk r (λ x. only_if b (Some i) ≡ Some x)
made_under (Ok x) b i same test = rw (test, same) refl
made_under (Err e) b i same test = tt

refused_under : (k : ErrorKind) (r : Result Interval Failure) (b : Bool) (i : Interval) → IfErr r (IsRefusal k (b ≡ false))
    → IfErr r (IsRefusal k (only_if b (Some i) ≡ None))
refused_under k (Ok x) b i h = tt
refused_under k (Err e) b i h = refused_by k e (λ (f : b ≡ false). rw f refl) h

none_under : (P : Type 0) (r : Result Interval Failure) (b : Bool) (i : Interval) → OnErr r (b ≡ false) → OnErr r (P → only_if b (Some i) ≡ None)
none_under P (Ok x) b i h = tt
none_under P (Err e) b i h = λ p. rw h refl

pub returns-clause-ok : goal.returns-clause-ok
returns-clause-ok c =
    let made = interval_of-stated (comparators_of c.args.req.now) _ c.in_ok-start.ensures.ok (sym (c.if-not-start_cut_exists.ensures)) (sym (c.if-not-end_cut_exists.ensures)) in
    rw made (made_under _ _ _ c.new.ensures.ok c.new.ensures.in_order)

pub returns-clause-err : goal.returns-clause-err
returns-clause-err c =
    let made = interval_of-stated (comparators_of c.args.req.now) _ c.in_ok-start.ensures.ok (sym (c.if-not-start_cut_exists.ensures)) (sym (c.if-not-end_cut_exists.ensures)) in
    rw made (refused_under _ _ _ _ c.new.ensures.err)

pub returns-clause-none : goal.returns-clause-none
returns-clause-none c =
    let made = interval_of-stated (comparators_of c.args.req.now) _ c.in_ok-start.ensures.ok (sym (c.if-not-start_cut_exists.ensures)) (sym (c.if-not-end_cut_exists.ensures)) in
    rw made (none_under _ _ _ _ c.new.ensures.refused)
