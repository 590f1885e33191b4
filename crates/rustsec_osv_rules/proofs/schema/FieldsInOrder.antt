-- A scan for fields in the order of a table, where some may be left out, ends after them exactly if they are there.
use Rattle.std.proofs.Common.{◌≡◌, ◌∙◌, inl, inr, ℕ, ◌==◌, ◌&&◌, Bool, true, false, List, [], ◌∷◌, ◌++◌, Option, Some, None, append_assoc, append-nil, arith, ap, length, map, nat_eq, refl, subst, sym}
use Rattle.std.specs.Prelude.{Contains, not, option_and_then, unwrap_or}
use Rattle.std.specs.List.{AllByRecursion, AllZip, concat, filter_map, flat_map, list_all, list_any, starts_with}
use Rattle.std.specs.Str.{bytes_eq}
use Rattle.std.proofs.lemmas.Bool.{and_parts, cases_Bool, eq-eqb, eqb-true, not-true, or_left, or_right}
use Rattle.std.proofs.lemmas.Option.{cond_some, same_Some}
use Rattle.rustsec_osv_rules.specs.schema.Metrics.{Metric}
use Rattle.rustsec_osv_rules.specs.schema.VectorScan.{Row, after_each, after_letter, after_metric, after_optionals, after_prefix}
use Rattle.rustsec_osv_rules.specs.schema.Vectors.{IsField, IsFieldIfAny, joined}
use Rattle.rustsec_versions.proofs.lemmas.lists.Contained.{contains-cases, contains-here, contains-there}
use Rattle.rustsec_osv_rules.proofs.schema.Fields.{or-cases}

-- ---- a prefix

pub prefix-sound : (p text rest : List ℕ) → after_prefix p text ≡ Some rest → text ≡ p ++ rest
prefix-sound [] text rest h = same_Some text rest h
prefix-sound (c ∷ p) [] rest h = cc h
prefix-sound (c ∷ p) (d ∷ text) rest h = elim (cases_Bool (nat_eq c d)) [
  | inl e ↦ subst (λ (x : ℕ). d ∷ text ≡ x ∷ (p ++ rest)) (sym (eqb-true c d e)) (ap (λ t. d ∷ t) (prefix-sound p text rest (rw e at h)))
  | inr e ↦ none (rw e at h)
]
  where
    none : {A : Type 0} → None ≡ Some rest → A
    none e = cc e

pub prefix-complete : (p rest : List ℕ) → after_prefix p (p ++ rest) ≡ Some rest
prefix-complete [] rest = refl
prefix-complete (c ∷ p) rest = rw (eq-eqb c c refl) (prefix-complete p rest)

-- ---- one metric

-- a metric whose values have one letter each, and its row
abbrev pub is_lettered : Metric → Bool
is_lettered m = list_all (λ v. length v == 1) m.values

abbrev pub row_of : Metric → Row
row_of m = (47 ∷ (m.name ++ (58 ∷ [])), concat m.values)

-- the letters of values of one letter
letter-listed : (values : List (List ℕ)) → list_all (λ v. length v == 1) values ≡ true → (b : ℕ) → list_any (nat_eq b) (concat values) ≡ true → Contains values (b ∷ [])
letter-listed [] l b h = cc h
letter-listed ([] ∷ values) l b h = cc l
letter-listed ((c ∷ []) ∷ values) l b h = elim (or-cases (nat_eq b c) (list_any (nat_eq b) (concat values)) h) [
  | inl e ↦ subst (λ (x : ℕ). Contains ((x ∷ []) ∷ values) (b ∷ [])) (eqb-true b c e) (contains-here (b ∷ []) values)
  | inr e ↦ contains-there (b ∷ []) (c ∷ []) values (letter-listed values l b e)
]
letter-listed ((c ∷ d ∷ tail) ∷ values) l b h =
    let one = eqb-true (length (c ∷ d ∷ tail)) 1 (and_parts (length (c ∷ d ∷ tail) == 1) _ l).0 in absurd (omega (arith, one))

-- such a value is one of the letters
letter-from : (values : List (List ℕ)) → list_all (λ v. length v == 1) values ≡ true → (v : List ℕ) → Contains values v
    → (b : ℕ) × (v ≡ b ∷ []) × (list_any (nat_eq b) (concat values) ≡ true)
letter-from [] l v (k, lt, e) = absurd (omega (arith, lt))
letter-from ([] ∷ values) l v c = cc l
letter-from ((x ∷ []) ∷ values) l v c = elim (contains-cases v (x ∷ []) values c) [
  | inl e ↦ (x, sym e, or_left (nat_eq x x) _ (eq-eqb x x refl))
  | inr later ↦ let of = letter-from values l v later in (of.0, of.1, or_right (nat_eq of.0 x) _ of.2)
]
letter-from ((x ∷ y ∷ tail) ∷ values) l v c =
    let one = eqb-true (length (x ∷ y ∷ tail)) 1 (and_parts (length (x ∷ y ∷ tail) == 1) _ l).0 in absurd (omega (arith, one))

-- a slash and a field, in two ways
row-text : (name v rest : List ℕ) → (47 ∷ (name ++ (58 ∷ []))) ++ (v ++ rest) ≡ 47 ∷ ((name ++ (58 ∷ v)) ++ rest)
row-text name v rest = ap (λ t. 47 ∷ t) (append_assoc name (58 ∷ []) (v ++ rest) ∙ sym (append_assoc name (58 ∷ v) rest))

-- what is left after a slash and a field
pub AfterField : Metric → List ℕ → List ℕ → Type 0
AfterField m text rest = (f : List ℕ) × IsField m f × (text ≡ 47 ∷ (f ++ rest))

after-letter : (letters text rest : List ℕ) → after_letter letters text ≡ Some rest → (b : ℕ) × (list_any (nat_eq b) letters ≡ true) × (text ≡ b ∷ rest)
after-letter letters [] rest h = cc h
after-letter letters (b ∷ text) rest h =
    let both = cond_some (list_any (nat_eq b) letters) text rest h in (b, both.0, ap (λ t. b ∷ t) both.1)

after-sound : (m : Metric) → is_lettered m ≡ true → (text rest : List ℕ) → after_metric (row_of m) text ≡ Some rest → AfterField m text rest
unfolding AfterField
after-sound m l text rest h = of (after_prefix (row_of m).0 text) refl h
  where
    of : (o : Option (List ℕ)) → after_prefix (row_of m).0 text ≡ o → option_and_then (after_letter (row_of m).1) o ≡ Some rest
        → (f : List ℕ) × IsField m f × (text ≡ 47 ∷ (f ++ rest))
    of None e h = cc h
    of (Some t) e h =
        let letter = after-letter (row_of m).1 t rest h in
        let field : IsField m (m.name ++ (58 ∷ letter.0 ∷ [])) =
        record { value = letter.0 ∷ []; is_listed = letter-listed m.values l letter.0 letter.1; is = refl } in (
          m.name ++ (58 ∷ letter.0 ∷ []),
          field,
          prefix-sound (row_of m).0 text t e ∙ ap (λ x. (row_of m).0 ++ x) letter.2 ∙ row-text m.name (letter.0 ∷ []) rest,
        )

letter-kept : (letters : List ℕ) (b : ℕ) (rest : List ℕ) → list_any (nat_eq b) letters ≡ true → after_letter letters (b ∷ rest) ≡ Some rest
letter-kept letters b rest h = rw h refl

after-at : (row : Row) (t rest : List ℕ) → after_letter row.1 t ≡ Some rest → after_metric row (row.0 ++ t) ≡ Some rest
after-at row t rest h = ap (option_and_then (after_letter row.1)) (prefix-complete row.0 t) ∙ h

after-complete : (m : Metric) → is_lettered m ≡ true → (f : List ℕ) → IsField m f → (rest : List ℕ) → after_metric (row_of m) (47 ∷ (f ++ rest)) ≡ Some rest
after-complete m l f is rest =
    let letter = letter-from m.values l is.value is.is_listed in
    let text : 47 ∷ (f ++ rest) ≡ (row_of m).0 ++ (letter.0 ∷ rest) =
    ap (λ (x : List ℕ). 47 ∷ (x ++ rest)) (is.is ∙ ap (λ v. m.name ++ (58 ∷ v)) letter.1) ∙ sym (row-text m.name (letter.0 ∷ []) rest) in
    ap (after_metric (row_of m)) text ∙ after-at (row_of m) (letter.0 ∷ rest) rest (letter-kept (row_of m).1 letter.0 rest letter.2)

-- ---- each of some metrics

-- fields with a slash before each
abbrev pub slashed : List (List ℕ) → List ℕ
slashed fields = flat_map (λ f. 47 ∷ f) fields

pub joined-slashed : (p : List ℕ) (fields : List (List ℕ)) → joined (p ∷ fields) ≡ p ++ slashed fields
joined-slashed p [] = sym (append-nil p)
joined-slashed p (f ∷ fields) = ap (λ t. p ++ (47 ∷ t)) (joined-slashed f fields)

longer : (text f t front rest : List ℕ) → text ≡ 47 ∷ (f ++ t) → t ≡ front ++ rest → text ≡ (47 ∷ (f ++ front)) ++ rest
longer text f t front rest e d = e ∙ ap (λ x. 47 ∷ (f ++ x)) d ∙ ap (λ x. 47 ∷ x) (sym (append_assoc f front rest))

-- what is left after a field of each
abbrev pub AfterEach : List Metric → List ℕ → List ℕ → Type 0
AfterEach ms text rest = (fs : List (List ℕ)) × AllZip IsField ms fs × (text ≡ slashed fs ++ rest)

each-step : (m : Metric) (ms : List Metric) (text rest : List ℕ) → ((t : List ℕ) → after_metric (row_of m) text ≡ Some t → AfterField m text t)
    → ((t : List ℕ) → after_each (map row_of ms) t ≡ Some rest → AfterEach ms t rest)
    → (o : Option (List ℕ)) → after_metric (row_of m) text ≡ o → option_and_then (after_each (map row_of ms)) o ≡ Some rest → AfterEach (m ∷ ms) text rest
unfolding AfterField
each-step m ms text rest one all None e h = cc h
each-step m ms text rest one all (Some t) e h =
    let first = one t e in
    let later = all t h in
    (first.0 ∷ later.0, (first.1, later.1), longer text first.0 t (slashed later.0) rest first.2 later.2)

pub each-sound : (ms : List Metric) → list_all is_lettered ms ≡ true → (text rest : List ℕ) → after_each (map row_of ms) text ≡ Some rest → AfterEach ms text rest
each-sound [] l text rest h = ([], tt, same_Some text rest h)
each-sound (m ∷ ms) l text rest h =
    let both = and_parts (is_lettered m) _ l in
    each-step m ms text rest (after-sound m both.0 text) (λ t. each-sound ms both.1 t rest) (after_metric (row_of m) text) refl h

pub each-complete : (ms : List Metric) → list_all is_lettered ms ≡ true → (fs : List (List ℕ)) → AllZip IsField ms fs → (rest : List ℕ)
    → after_each (map row_of ms) (slashed fs ++ rest) ≡ Some rest
each-complete [] l [] h rest = refl
each-complete [] l (f ∷ fs) h rest = absurd h
each-complete (m ∷ ms) l [] h rest = absurd h
each-complete (m ∷ ms) l (f ∷ fs) h rest =
    let both = and_parts (is_lettered m) _ l in
    let text : (47 ∷ (f ++ slashed fs)) ++ rest ≡ 47 ∷ (f ++ (slashed fs ++ rest)) = ap (λ x. 47 ∷ x) (append_assoc f (slashed fs) rest) in
    ap (option_and_then (after_each (map row_of ms))) (ap (after_metric (row_of m)) text ∙ after-complete m both.0 f h.0 (slashed fs ++ rest))
    ∙ each-complete ms both.1 fs h.1 rest

-- ---- those of some metrics that are there

-- the fields that are there
abbrev pub there : List (Option (List ℕ)) → List (List ℕ)
there os = filter_map (λ o. o) os

-- the text before what is left
abbrev pub AreThere : List Metric → List ℕ → List ℕ → Type 0
AreThere ms text rest = (os : List (Option (List ℕ))) × AllZip IsFieldIfAny ms os × (text ≡ slashed (there os) ++ rest)

optionals-step : (m : Metric) (ms : List Metric) (text : List ℕ) → ((t : List ℕ) → after_metric (row_of m) text ≡ Some t → AfterField m text t)
    → ((t : List ℕ) → AreThere ms t (after_optionals (map row_of ms) t))
    → (o : Option (List ℕ)) → after_metric (row_of m) text ≡ o → AreThere (m ∷ ms) text (after_optionals (map row_of ms) (unwrap_or o text))
unfolding AfterField
optionals-step m ms text one all None e = let later = all text in (None ∷ later.0, (tt, later.1), later.2)
optionals-step m ms text one all (Some t) e =
    let first = one t e in
    let later = all t in
    (Some first.0 ∷ later.0, (first.1, later.1), longer text first.0 t (slashed (there later.0)) _ first.2 later.2)

pub optionals-sound : (ms : List Metric) → list_all is_lettered ms ≡ true → (text : List ℕ) → AreThere ms text (after_optionals (map row_of ms) text)
optionals-sound [] l text = ([], tt, refl)
optionals-sound (m ∷ ms) l text =
    let both = and_parts (is_lettered m) _ l in
    optionals-step m ms text (after-sound m both.0 text) (optionals-sound ms both.1) (after_metric (row_of m) text) refl

-- ---- fields of other metrics

-- a name without a colon
abbrev pub is_plain : List ℕ → Bool
is_plain name = list_all (λ b. not (b == 58)) name

not-colon : (c : ℕ) (name : List ℕ) → is_plain (c ∷ name) ≡ true → (c == 58) ≡ false
not-colon c name h = not-true (c == 58) (and_parts (not (c == 58)) _ h).0

swapped : (a b : ℕ) → (a == b) ≡ false → (b == a) ≡ false
swapped a b h = elim (cases_Bool (b == a)) [
  | inl e ↦ let same = eqb-true b a e in absurd-true (eq-eqb a b (sym same)) h
  | inr e ↦ e
]
  where
    absurd-true : {A : Type 0} {t : Bool} → t ≡ true → t ≡ false → A
    absurd-true e d = cc (e, d)

names-apart : (a b x : List ℕ) → is_plain a ≡ true → is_plain b ≡ true → bytes_eq a b ≡ false → starts_with nat_eq (b ++ (58 ∷ x)) (a ++ (58 ∷ [])) ≡ false
names-apart [] [] x p q h = cc h
names-apart [] (d ∷ b) x p q h = rw (swapped d 58 (not-colon d b q)) refl
names-apart (c ∷ a) [] x p q h = rw (not-colon c a p) refl
names-apart (c ∷ a) (d ∷ b) x p q h = elim (cases_Bool (nat_eq c d)) [
  | inl e ↦ rw e (names-apart a b x (and_parts (not (c == 58)) _ p).1 (and_parts (not (d == 58)) _ q).1 (rw e at h))
  | inr e ↦ rw e refl
]

-- whether two metrics have different names
abbrev pub is_apart : Metric → Metric → Bool
is_apart m n = is_plain m.name && (is_plain n.name && not (bytes_eq m.name n.name))

other-field : (m n : Metric) → is_apart m n ≡ true → (f : List ℕ) → IsField n f → (rest : List ℕ) → after_metric (row_of m) (47 ∷ (f ++ rest)) ≡ None
other-field m n h f is rest =
    let a = and_parts (is_plain m.name) _ h in
    let b = and_parts (is_plain n.name) _ a.1 in
    let text : f ++ rest ≡ n.name ++ (58 ∷ (is.value ++ rest)) = ap (λ (x : List ℕ). x ++ rest) is.is ∙ append_assoc n.name (58 ∷ is.value) rest in
    rw (text, names-apart m.name n.name (is.value ++ rest) a.0 b.0 (not-true _ b.1)) refl

-- a text of such fields does not begin with another metric, if what is after them does not
others-first : (m : Metric) (ms : List Metric) → list_all (is_apart m) ms ≡ true → (os : List (Option (List ℕ))) → AllZip IsFieldIfAny ms os → (rest : List ℕ)
    → after_metric (row_of m) rest ≡ None → after_metric (row_of m) (slashed (there os) ++ rest) ≡ None
others-first m [] h [] z rest none = none
others-first m [] h (o ∷ os) z rest none = absurd z
others-first m (n ∷ ms) h [] z rest none = absurd z
others-first m (n ∷ ms) h (None ∷ os) z rest none = others-first m ms (and_parts (is_apart m n) _ h).1 os z.1 rest none
others-first m (n ∷ ms) h (Some f ∷ os) z rest none =
    ap (λ (t : List ℕ). after_metric (row_of m) (47 ∷ t)) (append_assoc f (slashed (there os)) rest)
    ∙ other-field m n (and_parts (is_apart m n) _ h).0 f z.0 (slashed (there os) ++ rest)

-- whether all names differ
abbrev pub are_apart : List Metric → Bool
are_apart [] = true
are_apart (m ∷ ms) = list_all (is_apart m) ms && are_apart ms

-- a text that begins with no field of some metrics
abbrev pub BeginsWithNone : List Metric → List ℕ → Type 0
BeginsWithNone ms rest = AllByRecursion (λ m. after_metric (row_of m) rest ≡ None) ms

row-step : (row : Row) (rows : List Row) (text : List ℕ) (o : Option (List ℕ)) → after_metric row text ≡ o
    → after_optionals (row ∷ rows) text ≡ after_optionals rows (unwrap_or o text)
row-step row rows text o e = ap (λ x. after_optionals rows (unwrap_or x text)) e

pub optionals-complete : (ms : List Metric) → list_all is_lettered ms ≡ true → are_apart ms ≡ true → (os : List (Option (List ℕ))) → AllZip IsFieldIfAny ms os
    → (rest : List ℕ) → BeginsWithNone ms rest → after_optionals (map row_of ms) (slashed (there os) ++ rest) ≡ rest
optionals-complete [] l a [] z rest none = refl
optionals-complete [] l a (o ∷ os) z rest none = absurd z
optionals-complete (m ∷ ms) l a [] z rest none = absurd z
optionals-complete (m ∷ ms) l a (None ∷ os) z rest none =
    let apart = and_parts (list_all (is_apart m) ms) _ a in
    row-step (row_of m) (map row_of ms) (slashed (there os) ++ rest) None (others-first m ms apart.0 os z.1 rest none.0)
    ∙ optionals-complete ms (and_parts (is_lettered m) _ l).1 apart.1 os z.1 rest none.1
optionals-complete (m ∷ ms) l a (Some f ∷ os) z rest none =
    let both = and_parts (is_lettered m) _ l in
    let apart = and_parts (list_all (is_apart m) ms) _ a in
    let text : (47 ∷ (f ++ slashed (there os))) ++ rest ≡ 47 ∷ (f ++ (slashed (there os) ++ rest)) =
    ap (λ x. 47 ∷ x) (append_assoc f (slashed (there os)) rest) in
    row-step (row_of m) (map row_of ms) ((47 ∷ (f ++ slashed (there os))) ++ rest) (Some (slashed (there os) ++ rest)) (ap (after_metric (row_of m)) text ∙ after-complete m both.0 f z.0 (slashed (there os) ++ rest))
    ∙ optionals-complete ms both.1 apart.1 os z.1 rest none.1

-- such texts: none, and a field of another metric
pub nothing-begins : (ms : List Metric) → BeginsWithNone ms []
nothing-begins [] = tt
nothing-begins (m ∷ ms) = (refl, nothing-begins ms)

pub other-begins : (ms : List Metric) (n : Metric) → list_all (λ m. is_apart m n) ms ≡ true → (f : List ℕ) → IsField n f → (rest : List ℕ)
    → BeginsWithNone ms (47 ∷ (f ++ rest))
other-begins [] n h f is rest = tt
other-begins (m ∷ ms) n h f is rest =
    let both = and_parts (is_apart m n) _ h in (other-field m n both.0 f is rest, other-begins ms n both.1 f is rest)
