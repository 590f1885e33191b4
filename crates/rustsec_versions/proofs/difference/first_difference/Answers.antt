use Rattle.std.proofs.Common.{◌≡◌, map, refl, subst}
use Rattle.std.specs.List.{All, Any}
use Rattle.semver.specs.Identifiers.{comparator_view, parts_of}
use Rattle.semver.specs.Parse.{Held}
use Rattle.rustsec_versions.specs.Views.{comparators_of}
use Rattle.rustsec_versions.specs.Matching.{first_patch}
use Rattle.rustsec_versions.proofs.Agreement.{AgreeOnFirst, any-at, first-all, first-more}
use Rattle.rustsec_versions.proofs.difference.first_difference.Goals as goal

pub loop-comparator-preserved : goal.loop-comparator-preserved
loop-comparator-preserved c =
    let items = c.as_slice-comparator-items.result.now in
    let cs = comparators_of c.args.requirement.now in
    let i = c.args.interval.now in
    first-more cs i items c.loop-comparator.comparator-index c.comparator-item.result c.loop-comparator-test.true c.loop-comparator.invariant
    (subst (λ d. AgreeOnFirst cs i (comparator_view d)) c.comparator-item.is (c.in_default.ensures.none refl))

pub returns-clause-none : goal.returns-clause-none
returns-clause-none c = λ none.
    let items = c.as_slice-comparator-items.result.now in
    let cs = comparators_of c.args.requirement.now in
    let i = c.args.interval.now in
    subst (λ xs. All (AgreeOnFirst cs i) (map comparator_view xs)) c.as_slice-comparator-items.ensures.value
    (first-all cs i items c.loop-comparator.comparator-index c.loop-comparator-test.false c.loop-comparator.invariant)

pub returns-in-Some-clause-first : goal.returns-in-Some-clause-first
returns-in-Some-clause-first c =
    let items = c.as_slice-comparator-items.result.now in
    let found = parts_of c.in-Some.found.release in
    subst (λ xs. Any (λ (e : Held). found ≡ first_patch e) (map comparator_view xs)) c.as_slice-comparator-items.ensures.value
    (any-at (λ (e : Held). found ≡ first_patch e) items c.loop-comparator.comparator-index c.comparator-item.result c.loop-comparator-test.true
    (subst (λ d. found ≡ first_patch (comparator_view d)) c.comparator-item.is c.in-Some.ensures.first))
