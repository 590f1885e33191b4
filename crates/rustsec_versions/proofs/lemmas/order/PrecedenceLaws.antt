-- Precedence is a total order: laws of its tests.
use Rattle.std.proofs.Common.{◌≡◌, true, false, refl, sym, ap, ◌∙◌, inl, inr}
use Rattle.std.specs.Prelude.{not}
use Rattle.std.proofs.lemmas.Bool.{cases_Bool, not-false, not-true}
use Rattle.std.specs.BTreeMap.Comparable.{le_lt_trans}
use Rattle.std.specs.Ordering.{is_le, is_lt, ordering_reverse}
use Rattle.std.specs.Cmp.{IsTotalOrder, nat_cmp_total, on_total, then_total}
use Rattle.std.specs.declared.cmp.Ordering.{Ordering}
use Rattle.std.specs.declared.cmp.Ordering.TheVariants.{Less, Equal, Greater}
use Rattle.semver.specs.OrderLaws.{pre_total}
use Rattle.semver.specs.Parse.{Parts}
use Rattle.rustsec_versions.specs.order.Precedence.{is_at_most, is_below, precedence}

pub total : IsTotalOrder precedence
total = then_total (on_total (λ (v : Parts). v.0) nat_cmp_total) (then_total (on_total (λ (v : Parts). v.1) nat_cmp_total)
    (then_total (on_total (λ (v : Parts). v.2) nat_cmp_total) (on_total (λ (v : Parts). v.3) pre_total)))

below-or : (o : Ordering) → is_lt o ≡ not (is_le (ordering_reverse o))
below-or Less = refl
below-or Equal = refl
below-or Greater = refl

-- below is not at or above
pub below-not : (a b : Parts) → is_below a b ≡ not (is_at_most b a)
below-not a b = below-or (precedence a b) ∙ ap (λ (o : Ordering). not (is_le o)) (sym (total.antisymm b a))

pub lt-Less : (o : Ordering) → is_lt o ≡ true → o ≡ Less
lt-Less Less h = refl
lt-Less Equal h = cc h
lt-Less Greater h = cc h

pub at_most-below : (a b c : Parts) → is_at_most a b ≡ true → is_below b c ≡ true → is_below a c ≡ true
at_most-below a b c h k = ap is_lt (le_lt_trans total a b c h (lt-Less _ k))

-- what is not below is at or above
pub not_below : (a b : Parts) → is_below a b ≡ false → is_at_most b a ≡ true
not_below a b h = not-false _ (sym (below-not a b) ∙ h)

pub not_at_most : (a b : Parts) → is_at_most a b ≡ false → is_below b a ≡ true
not_at_most a b h = below-not b a ∙ ap not h

pub at_most-not_below : (a b : Parts) → is_at_most a b ≡ true → is_below b a ≡ false
at_most-not_below a b h = below-not b a ∙ ap not h

pub below-not_at_most : (a b : Parts) → is_below a b ≡ true → is_at_most b a ≡ false
below-not_at_most a b h = not-true _ (sym (below-not a b) ∙ h)

pub at_most-trans : (a b c : Parts) → is_at_most a b ≡ true → is_at_most b c ≡ true → is_at_most a c ≡ true
at_most-trans a b c h k = elim (cases_Bool (is_at_most a c)) [
  | inl fine ↦ fine
  | inr other ↦ cc (sym (at_most-not_below a b h) ∙ at_most-below b c a k (not_at_most a c other))
]

le-weak : (o : Ordering) → is_lt o ≡ true → is_le o ≡ true
le-weak Less h = refl
le-weak Equal h = cc h
le-weak Greater h = cc h

pub below-weak : (a b : Parts) → is_below a b ≡ true → is_at_most a b ≡ true
below-weak a b h = le-weak _ h

pub below-at_most : (a b c : Parts) → is_below a b ≡ true → is_at_most b c ≡ true → is_below a c ≡ true
below-at_most a b c h k = elim (cases_Bool (is_below a c)) [
  | inl fine ↦ fine
  | inr other ↦ cc (sym (at_most-not_below b a (at_most-trans b c a k (not_below a c other))) ∙ h)
]
