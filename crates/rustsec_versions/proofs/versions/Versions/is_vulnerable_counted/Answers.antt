use Rattle.std.proofs.Common.{◌≡◌, ◌+◌, ◌++◌, ◌≤◌, ◌^◌, ◌∙◌, ◌∷◌, ℕ, zero, suc, ap, arith, length, map, sym}
use Rattle.std.specs.List.{list_any}
use Rattle.rustsec_versions.specs.interval.Interval.{holds}
use Rattle.std.proofs.Math.ListN.{length-map}
use Rattle.std.proofs.lemmas.List.Sorted.{IsPermutation-refl}
use Rattle.semver.specs.Identifiers.{parts_of}
use Rattle.rustsec_versions.specs.ranges.AcceptedRanges.{HasBinaryDigits}
use Rattle.rustsec_versions.specs.ranges.Between.{IsComplementOf}
use Rattle.rustsec_versions.specs.ranges.Complement.{cut}
use Rattle.rustsec_versions.specs.ranges.Ranges.{whole}
use Rattle.rustsec_versions.proofs.lemmas.ranges.Agreement.{kept-length, kept-order}
use Rattle.rustsec_versions.proofs.lemmas.acceptance.Clashes.{affected-build}
use Rattle.rustsec_versions.proofs.lemmas.search.Halving.{digits-least, first-begins, later-begin}
use Rattle.rustsec_versions.proofs.versions.Versions.is_vulnerable_counted.Goals as goal

pub in_complement-requires-clause-turn : goal.in_complement-requires-clause-turn
in_complement-requires-clause-turn c =
    let kept : IsComplementOf c.args.self.now c.deref.result.now = rw (c.deref.ensures.value, ← c.self.view_is) c.self.invariant in
    kept.in_turn

pub in_complement-requires-clause-starts : goal.in_complement-requires-clause-starts
in_complement-requires-clause-starts c =
    let kept : IsComplementOf c.args.self.now c.deref.result.now = rw (c.deref.ensures.value, ← c.self.view_is) c.self.invariant in
    later-begin c.deref.result.now kept.ranges.ranges.ranges.followed

pub returns-clause-answer : goal.returns-clause-answer
returns-clause-answer c =
    let kept : IsComplementOf c.args.self.now c.deref.result.now = rw (c.deref.ensures.value, ← c.self.view_is) c.self.invariant in
    c.in_complement.ensures.answer ∙ (ap (λ v. list_any (λ g. holds g v) c.deref.result.now) c.new.ensures ∙ kept.decide (parts_of c.args.version.now))

pub returns-clause-build : goal.returns-clause-build
returns-clause-build c = λ b. affected-build c.args.self.now (parts_of c.args.version.now) b ∙ sym (returns-clause-answer c)

pub returns-clause-accepted : goal.returns-clause-accepted
returns-clause-accepted c =
    let kept : IsComplementOf c.args.self.now c.deref.result.now = rw (c.deref.ensures.value, ← c.self.view_is) c.self.invariant in
    kept.ranges.ranges.accepts

pub returns-clause-count : goal.returns-clause-count
returns-clause-count c = λ rs digits r d.
    let kept : IsComplementOf c.args.self.now c.deref.result.now = rw (c.deref.ensures.value, ← c.self.view_is) c.self.invariant in
    let many : length rs ≡ length c.deref.result.now = kept-length c.args.self.now _ kept.ranges rs r ∙ length-map c.deref.result.now cut in
    omega (arith, c.in_complement.ensures.count digits (rw many at d.enough))

-- the comparisons that `in_complement` counts at least, by the digits of a number instead of a power of 2
from-digits : (n digits old new : ℕ) → ((d : ℕ) → 2 ^ d ≤ n → old + d ≤ new) → old ≤ new → HasBinaryDigits n digits → old + digits ≤ new + 1
from-digits n zero old new least rises h = omega arith
from-digits n (suc d) old new least rises h = omega (arith, least d (digits-least n d h))

pub returns-clause-least : goal.returns-clause-least
returns-clause-least c = λ rs digits r d below.
    let kept : IsComplementOf c.args.self.now c.deref.result.now = rw (c.deref.ensures.value, ← c.self.view_is) c.self.invariant in
    let many : length rs ≡ length c.deref.result.now = kept-length c.args.self.now _ kept.ranges rs r ∙ length-map c.deref.result.now cut in
    omega (arith, from-digits (length c.deref.result.now) digits _ _ (λ k l. c.in_complement.ensures.least k l below) c.in_complement.ensures.rises (rw many at d))

pub returns-clause-begins : goal.returns-clause-begins
returns-clause-begins c = λ first rs digits r begins d below.
    let kept : IsComplementOf c.args.self.now c.deref.result.now = rw (c.deref.ensures.value, ← c.self.view_is) c.self.invariant in
    let gs = c.deref.result.now in
    let same : first ∷ rs ≡ map cut gs = kept-order c.args.self.now _ kept.ranges c.args.self.now (first ∷ rs)
    (IsPermutation-refl (c.args.self.now.patched ++ c.args.self.now.unaffected)) r in
    let many : length (first ∷ rs) ≡ length gs = ap length same ∙ length-map gs cut in
    omega (
      arith,
      from-digits (length gs + 1) digits _ _ (λ k l. c.in_complement.ensures.begins k whole (first-begins gs first rs same begins whole) l below)
          c.in_complement.ensures.rises (rw many at d),
    )
