-- Intervals that do not clash: in any order, and what an unaffected one of them overlaps.
use Rattle.std.proofs.Common.{◌≡◌, ◌&&◌, ◌||◌, ◌++◌, Bool, true, false, List, [], ◌∷◌, refl, sym, ap, ◌∙◌, inl, inr}
use Rattle.std.specs.Prelude.{Contains, not}
use Rattle.std.specs.List.{list_any}
use Rattle.std.proofs.lemmas.List.Elements.{Contains-append_right}
use Rattle.std.proofs.lemmas.List.Sorted.{list_any-IsPermutation}
use Rattle.std.proofs.lemmas.Bool.{not-true}
use Rattle.rustsec_versions.specs.interval.Interval.{overlap}
use Rattle.rustsec_versions.specs.order.Precedence.{precedence}
use Rattle.rustsec_versions.specs.acceptance.Sweep.{TaggedInterval, are_clear, clashes}
use Rattle.rustsec_versions.proofs.lemmas.acceptance.Clashes.{overlap-sym}
use Rattle.rustsec_versions.proofs.lemmas.lists.Contained.{any-contained, contains-cases, contains-here, contains-nil}
use Rattle.rustsec_versions.proofs.lemmas.lists.Shuffled.{Shuffled, both, keep, permuted, same, turn}
use Rattle.rustsec_versions.proofs.lemmas.requirement.Sound.{and-first, and-second}

and-swap : (a b : Bool) → (a && b) ≡ (b && a)
and-swap true true = refl
and-swap true false = refl
and-swap false true = refl
and-swap false false = refl

clashes-sym : (c d : TaggedInterval) → clashes c d ≡ clashes d c
clashes-sym c d =
    ap (λ (b : Bool). not b && overlap precedence c.interval d.interval) (and-swap c.is_patched d.is_patched)
    ∙ ap (λ (o : Bool). not (d.is_patched && c.is_patched) && o) (overlap-sym precedence c.interval d.interval)

clear-opposite_bound : (o a b r : Bool) → (not (o || a) && (not b && r)) ≡ (not (o || b) && (not a && r))
clear-opposite_bound true a b r = refl
clear-opposite_bound false true true r = refl
clear-opposite_bound false true false r = refl
clear-opposite_bound false false true r = refl
clear-opposite_bound false false false r = refl

-- no order changes whether two clash
pub clear_shuffled : {xs ys : List TaggedInterval} → Shuffled xs ys → are_clear xs ≡ are_clear ys
clear_shuffled (same xs) = refl
clear_shuffled (keep x {xs} {ys} s) = rw (clear_shuffled s, list_any-IsPermutation (clashes x) xs ys (permuted s)) refl
clear_shuffled (turn x y xs) =
    ap (λ (o : Bool). not (o || list_any (clashes x) xs) && (not (list_any (clashes y) xs) && are_clear xs)) (clashes-sym x y)
    ∙ clear-opposite_bound (clashes y x) (list_any (clashes x) xs) (list_any (clashes y) xs) (are_clear xs)
clear_shuffled (both s t) = clear_shuffled s ∙ clear_shuffled t

-- one that is not patched clashes with what it overlaps
one-clash : (p q o : Bool) → p ≡ false → o ≡ true → (not (p && q) && o) ≡ true
one-clash p q o h k = rw (h, k) refl

-- if no two clash, an unaffected interval overlaps itself alone
pub clear-alone : (cs : List TaggedInterval) → are_clear cs ≡ true → (c d : TaggedInterval) → Contains cs c → Contains cs d → c.is_patched ≡ false
    → overlap precedence c.interval d.interval ≡ true → d.interval ≡ c.interval
clear-alone [] clear c d at there own near = absurd (contains-nil c at)
clear-alone (x ∷ xs) clear c d at there own near =
    let none = not-true _ (and-first _ _ clear) in
    let meets = one-clash c.is_patched d.is_patched _ own near in
    elim (contains-cases c x xs at) [
      | inl first ↦
          elim (contains-cases d x xs there) [
            | inl second ↦ ap (λ (m : TaggedInterval). m.interval) (sym second ∙ first)
            | inr later ↦ cc (sym none ∙ any-contained (clashes x) xs d later (rw first meets))
          ]
      | inr before ↦
          elim (contains-cases d x xs there) [
            | inl second ↦ cc (sym none ∙ any-contained (clashes x) xs c before (rw second (clashes-sym d c ∙ meets)))
            | inr later ↦ clear-alone xs (and-second _ _ clear) c d before later own near
          ]
    ]

-- two that clash
hit-false : (a r : Bool) → a ≡ true → (not a && r) ≡ false
hit-false a r h = rw h refl

miss-false : (a r : Bool) → r ≡ false → (not a && r) ≡ false
miss-false a r h = rw h (and-swap (not a) false)

pub clash-unclear : (before after : List TaggedInterval) (c x : TaggedInterval) → Contains before c → clashes c x ≡ true → are_clear (before ++ x ∷ after) ≡ false
clash-unclear [] after c x at clash = absurd (contains-nil c at)
clash-unclear (y ∷ ys) after c x at clash = elim (contains-cases c y ys at) [
  | inl here ↦ hit-false _ _ (any-contained (clashes y) (ys ++ x ∷ after) x (Contains-append_right ys (x ∷ after) x (contains-here x after)) (rw here clash))
  | inr later ↦ miss-false _ _ (clash-unclear ys after c x later clash)
]
