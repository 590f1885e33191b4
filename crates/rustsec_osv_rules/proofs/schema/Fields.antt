-- Fields of metrics, and the texts of all of them.
use Rattle.std.proofs.Common.{◌≡◌, ◌∙◌, ◌⊎◌, inl, inr, ℕ, zero, suc, ◌||◌, Bool, true, false, List, [], ◌∷◌, ◌++◌, arith, map, refl, subst, sym}
use Rattle.std.specs.Prelude.{Any, Contains}
use Rattle.std.specs.List.{flat_map, list_all, list_any}
use Rattle.std.specs.Cmp.Lexicographic.{bytes_decides}
use Rattle.std.specs.Str.{bytes_eq}
use Rattle.std.proofs.lemmas.Bool.{and_parts, or_left, or_right}
use Rattle.std.proofs.lemmas.List.Folds.{list_any-append}
use Rattle.rustsec_versions.proofs.lemmas.lists.Contained.{contains-cases, contains-here, contains-there}
use Rattle.rustsec_osv_rules.specs.schema.Metrics.{Metric}
use Rattle.rustsec_osv_rules.specs.schema.Vectors.{IsField}

-- ---- members of lists

any-here : {X : Type 0} (P : X → Type 0) (x : X) (xs : List X) → P x → Any P (x ∷ xs)
any-here P x xs p = (0, x, omega arith, refl, p)

any-later : {X : Type 0} (P : X → Type 0) (x : X) (xs : List X) → Any P xs → Any P (x ∷ xs)
any-later P x xs (k, y, l, e, p) = (suc k, y, omega (arith, l), e, p)

any-cases : {X : Type 0} (P : X → Type 0) (x : X) (xs : List X) → Any P (x ∷ xs) → P x ⊎ Any P xs
any-cases P x xs (zero, y, l, e, p) = inl (subst P (sym e) p)
any-cases P x xs (suc k, y, l, e, p) = inr (k, y, omega (arith, l), e, p)

-- ---- lists of texts

-- whether a list has a text
abbrev pub has : List (List ℕ) → List ℕ → Bool
has texts text = list_any (bytes_eq text) texts

pub same-self : (t : List ℕ) → bytes_eq t t ≡ true
same-self t = (bytes_decides t t).1 refl

pub or-cases : (a b : Bool) → (a || b) ≡ true → (a ≡ true) ⊎ (b ≡ true)
or-cases true b h = inl refl
or-cases false b h = inr h

-- a list that has all texts of another one
pub has-within : (xs ys : List (List ℕ)) → list_all (has ys) xs ≡ true → (t : List ℕ) → has xs t ≡ true → has ys t ≡ true
has-within [] ys all t h = cc h
has-within (x ∷ xs) ys all t h = elim (or-cases (bytes_eq t x) (has xs t) h) [
  | inl e ↦ rw ((bytes_decides t x).0 e) (and_parts (has ys x) _ all).0
  | inr e ↦ has-within xs ys (and_parts (has ys x) _ all).1 t e
]

-- a test that all texts of a list pass
pub has-passes : (p : List ℕ → Bool) (xs : List (List ℕ)) → list_all p xs ≡ true → (t : List ℕ) → has xs t ≡ true → p t ≡ true
has-passes p [] all t h = cc h
has-passes p (x ∷ xs) all t h = elim (or-cases (bytes_eq t x) (has xs t) h) [
  | inl e ↦ rw ((bytes_decides t x).0 e) (and_parts (p x) _ all).0
  | inr e ↦ has-passes p xs (and_parts (p x) _ all).1 t e
]

-- ---- the texts of all fields of metrics

-- a field
abbrev pub field_of : Metric → List ℕ → List ℕ
field_of m value = m.name ++ (58 ∷ value)

abbrev pub fields_of : Metric → List (List ℕ)
fields_of m = map (field_of m) m.values

abbrev pub written : List Metric → List (List ℕ)
written metrics = flat_map fields_of metrics

-- a list of texts made of values
pub made-has : (make : List ℕ → List ℕ) (values : List (List ℕ)) (v : List ℕ) → Contains values v → has (map make values) (make v) ≡ true
made-has make [] v (k, l, e) = absurd (omega (arith, l))
made-has make (x ∷ values) v c = elim (contains-cases v x values c) [
  | inl e ↦ or_left (bytes_eq (make v) (make x)) _ (subst (λ (y : List ℕ). bytes_eq (make v) (make y) ≡ true) (sym e) (same-self (make v)))
  | inr later ↦ or_right (bytes_eq (make v) (make x)) _ (made-has make values v later)
]

pub made-from : (make : List ℕ → List ℕ) (values : List (List ℕ)) (t : List ℕ) → has (map make values) t ≡ true
    → (v : List ℕ) × Contains values v × (t ≡ make v)
made-from make [] t h = cc h
made-from make (x ∷ values) t h = elim (or-cases (bytes_eq t (make x)) (has (map make values) t) h) [
  | inl e ↦ (x, contains-here x values, (bytes_decides t (make x)).0 e)
  | inr e ↦ let later = made-from make values t e in (later.0, contains-there later.0 x values later.1, later.2)
]

pub field-has : (m : Metric) (t : List ℕ) → IsField m t → has (fields_of m) t ≡ true
field-has m t f = subst (λ (x : List ℕ). has (fields_of m) x ≡ true) (sym f.is) (made-has (field_of m) m.values f.value f.is_listed)

pub fields-has : (metrics : List Metric) (t : List ℕ) → Any (λ m. IsField m t) metrics → has (written metrics) t ≡ true
fields-has [] t (k, x, l, e, p) = absurd (omega (arith, l))
fields-has (m ∷ metrics) t a =
    list_any-append (bytes_eq t) (fields_of m) (written metrics) ∙ (elim (any-cases (λ m. IsField m t) m metrics a) [
      | inl f ↦ or_left _ _ (field-has m t f)
      | inr later ↦ or_right (has (fields_of m) t) _ (fields-has metrics t later)
    ])

pub field-from : (m : Metric) (t : List ℕ) → has (fields_of m) t ≡ true → IsField m t
field-from m t h = let f = made-from (field_of m) m.values t h in record { value = f.0; is_listed = f.1; is = f.2 }

pub fields-from : (metrics : List Metric) (t : List ℕ) → has (written metrics) t ≡ true → Any (λ m. IsField m t) metrics
fields-from [] t h = cc h
fields-from (m ∷ metrics) t h = elim (or-cases (has (fields_of m) t) (has (written metrics) t) (sym (list_any-append (bytes_eq t) (fields_of m) (written metrics)) ∙ h)) [
  | inl e ↦ any-here (λ m. IsField m t) m metrics (field-from m t e)
  | inr e ↦ any-later (λ m. IsField m t) m metrics (fields-from metrics t e)
]
