-- The parts of a text between its slashes are fields exactly if the text is made of fields with slashes between them.
use Rattle.std.proofs.Common.{◌≡◌, ◌∙◌, inl, inr, ℕ, ◌<◌, ◌==◌, ◌&&◌, Bool, true, false, List, [], ◌∷◌, ◌++◌, All, arith, ap, drop, length, map, nat_eq, refl, subst, sym}
use Rattle.std.specs.Prelude.{Any, not}
use Rattle.std.specs.List.{flat_map, list_all, list_any, slice_split, starts_with}
use Rattle.std.specs.Str.{bytes_eq}
use Rattle.std.proofs.lemmas.Bool.{and_from, and_parts, cases_Bool, eqb-true, not-true, or_left, or_right}
use Rattle.std.proofs.lemmas.List.Elements.{All-cons, All-head, All-nil, All-tail}
use Rattle.std.proofs.lemmas.List.Folds.{list_any-append}
use Rattle.std.proofs.lemmas.List.Splits.{join_with_byte-slice_split, length-slice_split, slice_split_at, slice_split_none}
use Rattle.rustsec_osv_rules.specs.schema.Metrics.{Metric, metrics_2, metrics_3}
use Rattle.rustsec_osv_rules.specs.schema.VectorScan.{Row, are_metrics_3, base_rows_3, is_letter, is_metric, is_metric_2, is_metric_3, is_metric_of, is_vector_2, other_rows_3, rows_2, words_2}
use Rattle.rustsec_osv_rules.specs.schema.Vectors.{AreFields, IsField, IsVector2, joined}
use Rattle.rustsec_osv_rules.proofs.schema.Fields.{fields-from, fields-has, has, has-passes, has-within, or-cases, same-self, written}

-- ---- the texts of rows

-- the texts that a row allows
abbrev texts_of : Row → List (List ℕ)
texts_of row = map (λ b. row.0 ++ (b ∷ [])) row.1

abbrev spelled : List Row → List (List ℕ)
spelled rows = flat_map texts_of rows

letter-of : (letters text : List ℕ) → is_letter letters text ≡ true → (b : ℕ) × (list_any (nat_eq b) letters ≡ true) × (text ≡ b ∷ [])
letter-of letters [] h = cc h
letter-of letters (b ∷ []) h = (b, h, refl)
letter-of letters (b ∷ c ∷ more) h = cc h

metric-text : (name letters text : List ℕ) → (starts_with nat_eq text name && is_letter letters (drop (length name) text)) ≡ true
    → (b : ℕ) × (list_any (nat_eq b) letters ≡ true) × (text ≡ name ++ (b ∷ []))
metric-text [] letters text h = letter-of letters text h
metric-text (c ∷ name) letters [] h = cc h
metric-text (c ∷ name) letters (d ∷ text) h = elim (cases_Bool (nat_eq c d)) [
  | inl e ↦ let later = metric-text name letters text (rw e at h) in
      (later.0, later.1, subst (λ (x : ℕ). d ∷ text ≡ x ∷ (name ++ (later.0 ∷ []))) (sym (eqb-true c d e)) (ap (λ t. d ∷ t) later.2))
  | inr e ↦ absurd-false (rw e at h)
]
  where
    absurd-false : {A : Type 0} → false ≡ true → A
    absurd-false e = cc e

letter-has : (name : List ℕ) (letters : List ℕ) (b : ℕ) → list_any (nat_eq b) letters ≡ true → has (map (λ x. name ++ (x ∷ [])) letters) (name ++ (b ∷ [])) ≡ true
letter-has name [] b h = cc h
letter-has name (x ∷ letters) b h = elim (or-cases (nat_eq b x) (list_any (nat_eq b) letters) h) [
  | inl e ↦ or_left (bytes_eq (name ++ (b ∷ [])) (name ++ (x ∷ []))) _
      (subst (λ (y : ℕ). bytes_eq (name ++ (b ∷ [])) (name ++ (y ∷ [])) ≡ true) (eqb-true b x e) (same-self (name ++ (b ∷ []))))
  | inr e ↦ or_right (bytes_eq (name ++ (b ∷ [])) (name ++ (x ∷ []))) _ (letter-has name letters b e)
]

row-has : (row : Row) (t : List ℕ) → is_metric t row ≡ true → has (texts_of row) t ≡ true
row-has row t h =
    let of = metric-text row.0 row.1 t h in
    subst (λ (x : List ℕ). has (texts_of row) x ≡ true) (sym of.2) (letter-has row.0 row.1 of.0 of.1)

rows-have : (rows : List Row) (t : List ℕ) → is_metric_of rows t ≡ true → has (spelled rows) t ≡ true
rows-have [] t h = cc h
rows-have (row ∷ rows) t h =
    list_any-append (bytes_eq t) (texts_of row) (spelled rows) ∙ (elim (or-cases (is_metric t row) (is_metric_of rows t) h) [
      | inl e ↦ or_left (has (texts_of row) t) _ (row-has row t e)
      | inr e ↦ or_right (has (texts_of row) t) _ (rows-have rows t e)
    ])

-- ---- the tables

abbrev lacks_slash : List ℕ → Bool
lacks_slash t = list_all (λ b. not (b == 47)) t

within-2-rows : list_all (has (written metrics_2)) (spelled rows_2) ≡ true
unfolding metrics_2 rows_2
within-2-rows = refl

within-2-words : list_all (has (written metrics_2)) words_2 ≡ true
unfolding metrics_2 words_2
within-2-words = refl

passes-2 : list_all is_metric_2 (written metrics_2) ≡ true
unfolding metrics_2 rows_2 words_2
passes-2 = refl

slashes-2 : list_all lacks_slash (written metrics_2) ≡ true
unfolding metrics_2
slashes-2 = refl

metric-2 : (t : List ℕ) → is_metric_2 t ≡ true → Any (λ m. IsField m t) metrics_2
metric-2 t h = fields-from metrics_2 t (elim (or-cases (is_metric_of rows_2 t) (has words_2 t) h) [
  | inl e ↦ has-within (spelled rows_2) (written metrics_2) within-2-rows t (rows-have rows_2 t e)
  | inr e ↦ has-within words_2 (written metrics_2) within-2-words t e
])

within-3-base : list_all (has (written metrics_3)) (spelled base_rows_3) ≡ true
unfolding metrics_3 base_rows_3
within-3-base = refl

within-3-other : list_all (has (written metrics_3)) (spelled other_rows_3) ≡ true
unfolding metrics_3 other_rows_3
within-3-other = refl

passes-3 : list_all is_metric_3 (written metrics_3) ≡ true
unfolding metrics_3 base_rows_3 other_rows_3
passes-3 = refl

slashes-3 : list_all lacks_slash (written metrics_3) ≡ true
unfolding metrics_3
slashes-3 = refl

metric-3 : (t : List ℕ) → is_metric_3 t ≡ true → Any (λ m. IsField m t) metrics_3
metric-3 t h = fields-from metrics_3 t (elim (or-cases (is_metric_of base_rows_3 t) (is_metric_of other_rows_3 t) h) [
  | inl e ↦ has-within (spelled base_rows_3) (written metrics_3) within-3-base t (rows-have base_rows_3 t e)
  | inr e ↦ has-within (spelled other_rows_3) (written metrics_3) within-3-other t (rows-have other_rows_3 t e)
])

-- ---- parts between slashes

abbrev is_slash : ℕ → Bool
is_slash b = b == 47

all-from : {X : Type 0} (p : X → Bool) (P : X → Type 0) → ((x : X) → p x ≡ true → P x) → (xs : List X) → list_all p xs ≡ true → All P xs
all-from p P one [] h = All-nil P
all-from p P one (x ∷ xs) h = let parts = and_parts (p x) _ h in All-cons P x xs (one x parts.0) (all-from p P one xs parts.1)

all-to : {X : Type 0} (p : X → Bool) (P : X → Type 0) → ((x : X) → P x → p x ≡ true) → (xs : List X) → All P xs → list_all p xs ≡ true
all-to p P one [] h = refl
all-to p P one (x ∷ xs) h = and_from (p x) _ (one x (All-head P x xs h)) (all-to p P one xs (All-tail P x xs h))

-- a text without a slash
abbrev LacksSlash : List ℕ → Type 0
LacksSlash t = All (λ b. is_slash b ≡ false) t

lacks : (t : List ℕ) → lacks_slash t ≡ true → LacksSlash t
lacks t h = all-from (λ b. not (is_slash b)) (λ b. is_slash b ≡ false) (λ b e. not-true (is_slash b) e) t h

-- fields that are joined are the parts
split-joined : (x : List ℕ) (xs : List (List ℕ)) → All LacksSlash (x ∷ xs) → slice_split is_slash (joined (x ∷ xs)) ≡ x ∷ xs
split-joined x [] h = slice_split_none is_slash x (All-head LacksSlash x [] h)
split-joined x (y ∷ ys) h =
    slice_split_at is_slash x 47 (joined (y ∷ ys)) (All-head LacksSlash x (y ∷ ys) h) refl
    ∙ ap (λ parts. x ∷ parts) (split-joined y ys (All-tail LacksSlash x (y ∷ ys) h))

module _ (p : List ℕ → Bool) (metrics : List Metric) where
  abbrev IsOne : List ℕ → Type 0
  IsOne t = Any (λ m. IsField m t) metrics

  parts-are : ((t : List ℕ) → p t ≡ true → IsOne t) → (parts : List (List ℕ)) (text : List ℕ) → 0 < length parts → joined parts ≡ text → list_all p parts ≡ true
      → AreFields metrics text
  parts-are one [] text l e h = absurd (omega (arith, l))
  parts-are one (x ∷ xs) text l e h = record { first = x; others = xs; each = all-from p IsOne one (x ∷ xs) h; is = sym e }

  pub fields-sound : ((t : List ℕ) → p t ≡ true → IsOne t) → (text : List ℕ) → list_all p (slice_split is_slash text) ≡ true → AreFields metrics text
  fields-sound one text h =
      parts-are one (slice_split is_slash text) text (omega (arith, length-slice_split is_slash text)) (join_with_byte-slice_split 47 text) h

  pub fields-complete : list_all p (written metrics) ≡ true → list_all lacks_slash (written metrics) ≡ true → (text : List ℕ) → AreFields metrics text
      → list_all p (slice_split is_slash text) ≡ true
  fields-complete passes slashes text f =
      let none = all-slash (f.first ∷ f.others) f.each in
      subst (λ (t : List ℕ). list_all p (slice_split is_slash t) ≡ true) (sym f.is)
      (subst (λ (parts : List (List ℕ)). list_all p parts ≡ true) (sym (split-joined f.first f.others none))
      (all-to p IsOne (λ t one. has-passes p (written metrics) passes t (fields-has metrics t one)) (f.first ∷ f.others) f.each))
    where
      all-slash : (fields : List (List ℕ)) → All IsOne fields → All LacksSlash fields
      all-slash [] h = All-nil LacksSlash
      all-slash (x ∷ xs) h =
          All-cons LacksSlash x xs (lacks x (has-passes lacks_slash (written metrics) slashes x (fields-has metrics x (All-head IsOne x xs h))))
          (all-slash xs (All-tail IsOne x xs h))

-- ---- vectors of CVSS 2, and the fields of one of CVSS 3

pub vector-2 : (text : List ℕ) → is_vector_2 text ≡ true → IsVector2 text
vector-2 text h = fields-sound is_metric_2 metrics_2 metric-2 text h

pub vector-2-kept : (text : List ℕ) → IsVector2 text → is_vector_2 text ≡ true
vector-2-kept text v = fields-complete is_metric_2 metrics_2 passes-2 slashes-2 text v

pub metrics-3 : (text : List ℕ) → are_metrics_3 text ≡ true → AreFields metrics_3 text
metrics-3 text h = fields-sound is_metric_3 metrics_3 metric-3 text h

pub metrics-3-kept : (text : List ℕ) → AreFields metrics_3 text → are_metrics_3 text ≡ true
metrics-3-kept text v = fields-complete is_metric_3 metrics_3 passes-3 slashes-3 text v
