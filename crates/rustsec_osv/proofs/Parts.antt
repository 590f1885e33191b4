-- A text contains a part exactly if the part's bytes are in it.
use Rattle.std.proofs.Common.{◌≡◌, ◌++◌, ℕ, Bool, true, false, List, [], ◌∷◌, ap, refl, sym, inl, inr}
use Rattle.std.specs.Prelude.{◌↔◌, nat_eq}
use Rattle.std.specs.List.{starts_with}
use Rattle.std.specs.Str.Iter.{HasSubslice}
use Rattle.std.proofs.lemmas.Bool.{and_parts, cases_Bool, eq-eqb, eqb-true, or_left, or_right}
use Rattle.rustsec_osv.specs.References.{has}

same-tests : (a b : Bool) → (a ≡ true → b ≡ true) → (b ≡ true → a ≡ true) → a ≡ b
same-tests true b f g = sym (f refl)
same-tests false true f g = g refl
same-tests false false f g = refl

-- a part at the beginning
begins : (part rest : List ℕ) → starts_with nat_eq (part ++ rest) part ≡ true
begins [] rest = refl
begins (b ∷ part) rest = rw (eq-eqb b b refl, begins part rest) refl

begins-rest : (text part : List ℕ) → starts_with nat_eq text part ≡ true → (rest : List ℕ) × (text ≡ part ++ rest)
begins-rest text [] h = (text, refl)
begins-rest [] (p ∷ part) h = cc h
begins-rest (b ∷ text) (p ∷ part) h =
    let there = begins-rest text part (and_parts (nat_eq p b) _ h).1 in
    let first : p ≡ b = eqb-true p b (and_parts (nat_eq p b) _ h).0 in
    let e : text ≡ part ++ there.0 = there.1 in
    (there.0, cc)

has-none : (b : List ℕ) → has [] b ≡ true
unfolding has
has-none [] = refl
has-none (x ∷ b) = refl

stands : (a b part : List ℕ) → has part (a ++ (part ++ b)) ≡ true
unfolding has
stands [] b [] = has-none b
stands [] b (p ∷ part) = or_left (starts_with nat_eq ((p ∷ part) ++ b) (p ∷ part)) _ (begins (p ∷ part) b)
stands (x ∷ a) b part = or_right (starts_with nat_eq (x ∷ (a ++ (part ++ b))) part) _ (stands a b part)

found : (part text : List ℕ) → has part text ≡ true → HasSubslice text part
unfolding has
found part [] h = let there = begins-rest [] part h in ([], there.0, there.1)
found part (b ∷ text) h = elim (cases_Bool (starts_with nat_eq (b ∷ text) part)) [
  | inl here ↦ let there = begins-rest (b ∷ text) part here in ([], there.0, there.1)
  | inr later ↦ further part b text (found part text (rw later at h))
]
  where
    further : (part : List ℕ) (b : ℕ) (text : List ℕ) → HasSubslice text part → HasSubslice (b ∷ text) part
    further part b text (a, c, e) = (b ∷ a, c, ap (λ bs. b ∷ bs) e)

stands-in : (part text : List ℕ) → HasSubslice text part → has part text ≡ true
stands-in part text (a, b, e) = rw e (stands a b part)

-- what a search for a part answers
pub has-is : (r : Bool) (part text : List ℕ) → (r ≡ true) ↔ HasSubslice text part → r ≡ has part text
has-is r part text i = same-tests r (has part text) (λ h. stands-in part text (i.0 h)) (λ h. i.1 (found part text h))
