-- There is one least free version: two answers that meet the definition are equal.
use Rattle.std.proofs.Common.{◌≡◌, ◌∙◌, true, false, List, Option, Some, None, ap, inl, inr, refl, sym}
use Rattle.std.proofs.lemmas.Bool.{cases_Bool}
use Rattle.std.specs.FinMap.{nat_cmp-IsAntisymmetric}
use Rattle.std.specs.Ordering.{is_le, is_lt, nat_cmp, ordering_then}
use Rattle.std.specs.declared.cmp.Ordering.{Ordering}
use Rattle.std.specs.declared.cmp.Ordering.TheVariants.{Equal, Greater, Less}
use Rattle.semver.specs.OrderLaws.{pre-anti}
use Rattle.semver.specs.Parse.{Parts}
use Rattle.rustsec_versions.specs.acceptance.Lists.{Lists}
use Rattle.rustsec_versions.specs.order.Precedence.{is_at_most, precedence}
use Rattle.rustsec_versions.proofs.lemmas.order.PrecedenceLaws.{at_most-not_below}
use Rattle.rustsec_check.specs.LeastFree.{IsLeastFree, is_affected}

tied : (o : Ordering) → is_le o ≡ true → is_lt o ≡ false → o ≡ Equal
tied Less h k = cc k
tied Equal h k = refl
tied Greater h k = cc h

then-first : (o p : Ordering) → ordering_then o p ≡ Equal → o ≡ Equal
then-first Less p h = cc h
then-first Equal p h = refl
then-first Greater p h = cc h

then-second : (o p : Ordering) → ordering_then o p ≡ Equal → p ≡ Equal
then-second Less p h = cc h
then-second Equal p h = h
then-second Greater p h = cc h

-- versions of the same precedence and the same build metadata are equal
same-parts : (v w : Parts) → is_at_most v w ≡ true → is_at_most w v ≡ true → v.4 ≡ w.4 → v ≡ w
same-parts v w low high build =
    let equal : precedence v w ≡ Equal = tied (precedence v w) low (at_most-not_below w v high) in
    let minors = then-second (nat_cmp v.0 w.0) _ equal in
    let patches = then-second (nat_cmp v.1 w.1) _ minors in
    let major = nat_cmp-IsAntisymmetric v.0 w.0 (then-first (nat_cmp v.0 w.0) _ equal) in
    let minor = nat_cmp-IsAntisymmetric v.1 w.1 (then-first (nat_cmp v.1 w.1) _ minors) in
    let patch = nat_cmp-IsAntisymmetric v.2 w.2 (then-first (nat_cmp v.2 w.2) _ patches) in
    let pre = pre-anti v.3 w.3 (then-second (nat_cmp v.2 w.2) _ patches) in
    λ i. (major i, minor i, patch i, pre i, build i)

module _ (all : List Lists) (v : Parts) where
  same-some : (w u : Parts) (a b : Option Parts) → IsLeastFree all v a → IsLeastFree all v b → a ≡ Some w → b ≡ Some u → w ≡ u
  same-some w u a b p q is_a is_b = elim (cases_Bool (is_affected all v)) [
    | inl held ↦
        let left = p.some w is_a in
        let right = q.some u is_b in
        same-parts w u (p.least w is_a u right.0 right.1 right.2) (q.least u is_b w left.0 left.1 left.2)
        (p.plain w is_a held ∙ sym (q.plain u is_b held))
    | inr not_held ↦
        let left : v ≡ w = cc (sym (p.itself not_held) ∙ is_a) in
        let right : v ≡ u = cc (sym (q.itself not_held) ∙ is_b) in
        sym left ∙ right
  ]

  none-too : (w : Parts) (a b : Option Parts) → IsLeastFree all v a → IsLeastFree all v b → a ≡ Some w → b ≡ None → a ≡ b
  none-too w a b p q is_a is_b =
      let left = p.some w is_a in
      cc (sym left.2 ∙ q.none is_b w left.0 left.1)

  pub one-answer : (a b : Option Parts) → IsLeastFree all v a → IsLeastFree all v b → a ≡ b
  one-answer None None p q = refl
  one-answer (Some w) None p q = none-too w (Some w) None p q refl refl
  one-answer None (Some u) p q = sym (none-too u (Some u) None q p refl refl)
  one-answer (Some w) (Some u) p q = ap Some (same-some w u (Some w) (Some u) p q refl refl)
