use Rattle.std.proofs.Common.{◌≡◌, ◌∙◌, ◌≢◌, refl, None}
use Rattle.semver.specs.Identifiers.{comparator_view}
use Rattle.rustsec_versions.specs.requirement.Requirement.{of_sides}
use Rattle.rustsec_versions.specs.Views.{side_view}
use Rattle.rustsec_versions.specs.declared.bound.Bound.{Bound}
use Rattle.rustsec_versions.specs.declared.requirement.comparator.Side.{Side}
use Rattle.rustsec_versions.specs.declared.requirement.comparator.Side.TheVariants.{Lower, Upper, Neither}
use Rattle.rustsec_values.proofs.Refusals.{refusal}
use Rattle.rustsec_versions.proofs.lemmas.requirement.Stated.{stated_two}
use Rattle.rustsec_versions.proofs.requirement.comparator.bounds_of_two.Goals as goal
use Rattle.rustsec_versions.proofs.requirement.comparator.bounds_of_two.Goals.{in_default-via-in-Lower+in_default, in_default-via-in-Upper+in_default, in_default-via-in_default}

-- a start and no end, an end and no start, and neither
of_lower : (s : Bound) (a b : Side) → a ≡ Lower s → ((e : Bound) → b ≢ Upper e) → of_sides (side_view a) (side_view b) ≡ None
of_lower s a (Lower t) h never = rw h refl
of_lower s a (Upper e) h never = absurd (never e refl)
of_lower s a Neither h never = rw h refl

of_upper : (s : Bound) (a b : Side) → a ≡ Upper s → ((e : Bound) → b ≢ Lower e) → of_sides (side_view a) (side_view b) ≡ None
of_upper s a (Upper t) h never = rw h refl
of_upper s a (Lower e) h never = absurd (never e refl)
of_upper s a Neither h never = rw h refl

of_neither : (a b : Side) → a ≡ Neither → of_sides (side_view a) (side_view b) ≡ None
of_neither a b h = rw h refl

pub returns-in-Lower-Upper-clause-ok : goal.returns-in-Lower-Upper-clause-ok
returns-in-Lower-Upper-clause-ok c =
    let two = stated_two (comparator_view c.args.c.now) (comparator_view c.args.d.now) _ _ c.in_ok-first.ensures.ok c.in_ok-second.ensures.ok in
    two ∙ rw (c.in-Lower-Upper.is-0, c.in-Lower-Upper.is-1) refl

pub returns-in-Upper-Lower-clause-ok : goal.returns-in-Upper-Lower-clause-ok
returns-in-Upper-Lower-clause-ok c =
    let two = stated_two (comparator_view c.args.c.now) (comparator_view c.args.d.now) _ _ c.in_ok-first.ensures.ok c.in_ok-second.ensures.ok in
    two ∙ rw (c.in-Upper-Lower.is-0, c.in-Upper-Lower.is-1) refl

pub returns-in_default-clause-err : goal.returns-in_default-clause-err
returns-in_default-clause-err c =
    let two = stated_two (comparator_view c.args.c.now) (comparator_view c.args.d.now) _ _ c.in_ok-first.ensures.ok c.in_ok-second.ensures.ok in
    let none : of_sides (side_view c.in_ok-first.first) (side_view c.in_ok-second.second) ≡ None = elim c.in_default.branch [
      | in_default-via-in-Lower+in_default w ↦ of_lower _ _ _ w.in_default.is-0 w.in_default.not-Upper-1
      | in_default-via-in-Upper+in_default w ↦ of_upper _ _ _ w.in_default.is-0 w.in_default.not-Lower-1
      | in_default-via-in_default w ↦ of_neither _ _ w.in_default.is-0
    ] in
    refusal _ c.bad_param.result (two ∙ none) c.bad_param.ensures.kind
