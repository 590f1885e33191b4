-- What comes after a prefix in two parts, and when nothing does.
use Rattle.std.proofs.Common.{◌≡◌, ◌∙◌, ◌++◌, ◌&&◌, ℕ, Bool, true, false, cond, List, [], ◌∷◌, Option, Some, None, nat_eq, refl, sym, ap}
use Rattle.std.specs.Prelude.{decimal, option_and_then, option_map}
use Rattle.std.specs.Borrow.{Bor}
use Rattle.std.specs.Cmp.Lexicographic.{pointwise}
use Rattle.semver.specs.Identifiers.{marked}
use Rattle.rustsec_lock.specs.Cvss.{after_prefix}

nested : {A : Type 0} (x y : Bool) (r : Option A) → cond (x && y) r None ≡ cond x (cond y r None) None
nested true y r = refl
nested false y r = refl

step : (p b : ℕ) (ps bs : List ℕ) → after_prefix (p ∷ ps) (b ∷ bs) ≡ cond (nat_eq p b) (after_prefix ps bs) None
step p b ps bs = nested (nat_eq p b) _ _

within : {A B : Type 0} (x : Bool) (f : A → Option B) (o : Option A) → cond x (option_and_then f o) None ≡ option_and_then f (cond x o None)
within true f o = refl
within false f o = refl

after-append : (ps qs bs : List ℕ) → after_prefix (ps ++ qs) bs ≡ option_and_then (after_prefix qs) (after_prefix ps bs)
after-append [] qs bs = refl
after-append (p ∷ ps) qs [] = refl
after-append (p ∷ ps) qs (b ∷ bs) =
    step p b (ps ++ qs) bs ∙ ap (λ o. cond (nat_eq p b) o None) (after-append ps qs bs) ∙ within (nat_eq p b) (after_prefix qs) (after_prefix ps bs)
    ∙ ap (option_and_then (after_prefix qs)) (sym (step p b ps bs))

-- a text that does not begin with the first part
pub none-after : (ps qs bs : List ℕ) → None ≡ after_prefix ps bs → None ≡ after_prefix (ps ++ qs) bs
none-after ps qs bs h = ap (option_and_then (after_prefix qs)) h ∙ sym (after-append ps qs bs)

-- the second part after the first one
pub some-after : (ps qs bs rest : List ℕ) (o : Option (List ℕ)) → Some rest ≡ after_prefix ps bs → o ≡ after_prefix qs rest → o ≡ after_prefix (ps ++ qs) bs
some-after ps qs bs rest o h more = more ∙ ap (option_and_then (after_prefix qs)) h ∙ sym (after-append ps qs bs)

-- whether nothing is left
abbrev pub is_end : Option (List ℕ) → Bool
is_end None = false
is_end (Some []) = true
is_end (Some (b ∷ bs)) = false

and-end : (x : Bool) (o : Option (List ℕ)) → (x && is_end o) ≡ is_end (cond x o None)
and-end true o = refl
and-end false o = refl

-- two texts are equal if nothing is left after the first one in the second one
pub same-end : (ps bs : List ℕ) (o : Option (List ℕ)) → o ≡ after_prefix ps bs → is_end o ≡ pointwise nat_eq ps bs
same-end ps bs o h = ap is_end h ∙ sym (whole ps bs)
  where
    whole : (ps bs : List ℕ) → pointwise nat_eq ps bs ≡ is_end (after_prefix ps bs)
    whole [] [] = refl
    whole [] (b ∷ bs) = refl
    whole (p ∷ ps) [] = refl
    whole (p ∷ ps) (b ∷ bs) =
        ap (λ y. nat_eq p b && y) (whole ps bs) ∙ and-end (nat_eq p b) (after_prefix ps bs) ∙ ap is_end (sym (step p b ps bs))

-- ---- a version

-- the texts after each part of a version
abbrev pub from_pre : List ℕ → List ℕ → List ℕ
from_pre pre build = marked 45 pre ++ marked 43 build

abbrev pub from_patch : ℕ → List ℕ → List ℕ → List ℕ
from_patch patch pre build = (46 ∷ decimal patch) ++ from_pre pre build

abbrev pub from_minor : ℕ → ℕ → List ℕ → List ℕ → List ℕ
from_minor minor patch pre build = (46 ∷ decimal minor) ++ from_patch patch pre build

-- ---- references

abbrev pub text_in : Option (Bor (List ℕ)) → Option (List ℕ)
text_in o = option_map (λ t. t.now) o

pub no-text : (o : Option (Bor (List ℕ))) → o ≡ None → text_in o ≡ None
no-text o h = ap text_in h
