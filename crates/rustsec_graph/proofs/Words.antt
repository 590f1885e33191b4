-- An entry has the first word of the name of each package that it fits.
use Rattle.std.proofs.Common.{◌≡◌, ◌∙◌, ◌++◌, ◌+◌, ◌||◌, inl, inr, ℕ, suc, Bool, true, false, cond, not, if◌then◌else◌, List, [], ◌∷◌, Option, Some, None, length, map, take, arith, refl, sym, ap, subst}
use Rattle.std.specs.Prelude.{nat_eq, option_map, slice_get}
use Rattle.std.specs.Borrow.{Bor}
use Rattle.std.specs.Cmp.Lexicographic.{pointwise}
use Rattle.std.specs.HashMap.{HashMap}
use Rattle.std.specs.List.{filter, list_any, prefix_len, range_with_len}
use Rattle.std.specs.Option.{option_map_or}
use Rattle.std.specs.Str.{bytes_eq}
use Rattle.std.specs.declared.vec.Vec.{Vec}
use Rattle.std.proofs.lemmas.Bool.{cases_Bool}
use Rattle.std.proofs.lemmas.List.{append-nil, map-id}
use Rattle.std.proofs.lemmas.List.Elements.{filter-append}
use Rattle.std.proofs.lemmas.List.Folds.{list_any-append}
use Rattle.std.proofs.lemmas.List.FromFn.{map-range_with_len_more}
use Rattle.std.proofs.lemmas.Option.{slice_get-map}
use Rattle.std.proofs.lemmas.Slice.Eq.{bytes_eq-Decides}
use Rattle.rustsec_lock.specs.Package.{PackageValue}
use Rattle.rustsec_lock.specs.Source.{Source, source_text}
use Rattle.rustsec_graph.specs.Candidates.{Candidate, candidate_of, in_entries, source_texts, with_source, with_version, without_precise}
use Rattle.rustsec_graph.specs.Entries.{fits, fits_at, places}
use Rattle.rustsec_graph.specs.Words.{AreWords, FindsAll, first_word, has_word, has_word_at, is_space}

-- ---- first words

cut : (t : Bool) (n : ℕ) (b : ℕ) (bs : List ℕ) → take (cond (not t) (1 + n) 0) (b ∷ bs) ≡ cond t [] (b ∷ take n bs)
cut true n b bs = refl
cut false n b bs = ap (λ k. take k (b ∷ bs)) (let e : 1 + n ≡ suc n = omega arith in e)

first_word-cons : (b : ℕ) (bs : List ℕ) → first_word (b ∷ bs) ≡ cond (is_space b) [] (b ∷ first_word bs)
first_word-cons b bs = cut (is_space b) (prefix_len (λ x. not (is_space x)) bs) b bs

-- what is after a space does not count
spaced : (name rest : List ℕ) → first_word (name ++ 32 ∷ rest) ≡ first_word name
spaced [] rest = refl
spaced (b ∷ bs) rest = first_word-cons b (bs ++ 32 ∷ rest) ∙ ap (λ w. cond (is_space b) [] (b ∷ w)) (spaced bs rest) ∙ sym (first_word-cons b bs)

-- ---- the texts of a package

same-word : (text entry word : List ℕ) → pointwise nat_eq text entry ≡ true → first_word text ≡ word → bytes_eq (first_word entry) word ≡ true
same-word text entry word h is =
    let same : text ≡ entry = (bytes_eq-Decides text entry).0 h in
    (bytes_eq-Decides (first_word entry) word).1 (ap first_word (sym same) ∙ is)

some-word : (entry word text : List ℕ) (more : List (List ℕ)) → first_word text ≡ word
    → (list_any (λ t. pointwise nat_eq t entry) more ≡ true → bytes_eq (first_word entry) word ≡ true)
    → list_any (λ t. pointwise nat_eq t entry) (text ∷ more) ≡ true → bytes_eq (first_word entry) word ≡ true
some-word entry word text more is rest h = elim (cases_Bool (pointwise nat_eq text entry)) [
  | inl e ↦ same-word text entry word e is
  | inr e ↦ rest (grind (arith, e, h))
]

module _ (old : Bool) (p : PackageValue) (entry : List ℕ) where
  abbrev word : List ℕ
  word = first_word p.name

  fits-source : (source : Option Source) → list_any (λ t. pointwise nat_eq t entry) (source_texts old p source) ≡ true → bytes_eq (first_word entry) word ≡ true
  fits-source None h = cc h
  fits-source (Some s) h =
      let a = with_source p (source_text s) in
      let b = with_source p (without_precise (source_text s)) in
      let c = with_source p (in_entries old (source_text s)) in
      some-word entry word a (b ∷ c ∷ []) (spaced p.name _)
      (some-word entry word b (c ∷ []) (spaced p.name _) (some-word entry word c [] (spaced p.name _) (λ g. cc g))) h

  pub fits-word : fits entry (candidate_of old p) ≡ true → has_word (first_word entry) p ≡ true
  fits-word =
      some-word entry word p.name (with_version p ∷ source_texts old p p.source) refl
      (some-word entry word (with_version p) (source_texts old p p.source) (spaced p.name _) (fits-source p.source))

-- ---- the packages of a word

filter-within : (p q : ℕ → Bool) (xs : List ℕ) → ((x : ℕ) → p x ≡ true → q x ≡ true) → filter p xs ≡ filter p (filter q xs)
filter-within p q [] h = refl
filter-within p q (x ∷ xs) h = elim (cases_Bool (q x)) [
  | inl e ↦ rw e (ap (λ ys. cond (p x) (x ∷ ys) ys) (filter-within p q xs h))
  | inr e ↦ elim (cases_Bool (p x)) [
    | inl f ↦ cc (sym (h x f) ∙ e)
    | inr f ↦ rw (e, f) (filter-within p q xs h)
  ]
]

length-map : (old : Bool) (packages : List PackageValue) → length (map (candidate_of old) packages) ≡ length packages
length-map old [] = refl
length-map old (p ∷ ps) = ap (λ n. suc n) (length-map old ps)

module _ (old : Bool) (packages : List PackageValue) where
  at-place : (entry : List ℕ) (o : Option PackageValue) → option_map_or (fits entry) (option_map (candidate_of old) o) false ≡ true
      → option_map_or (has_word (first_word entry)) o false ≡ true
  at-place entry None h = cc h
  at-place entry (Some p) h = fits-word old p entry h

  fits-there : (entry : List ℕ) (place : ℕ) → fits_at (map (candidate_of old) packages) entry place ≡ true → has_word_at packages (first_word entry) place ≡ true
  fits-there entry place h =
      at-place entry (slice_get packages place) (sym (ap (λ o. option_map_or (fits entry) o false) (slice_get-map (candidate_of old) packages place)) ∙ h)

  finds : {Z S : Type 0} (words : HashMap (Bor (List ℕ)) (Vec ℕ Z) S) → AreWords packages words → FindsAll (map (candidate_of old) packages) words
  finds words are entry =
      let cs = map (candidate_of old) packages in
      filter-within (fits_at cs entry) (has_word_at packages (first_word entry)) (places (length cs)) (fits-there entry)
      ∙ ap (λ n. filter (fits_at cs entry) (filter (has_word_at packages (first_word entry)) (places n))) (length-map old packages)
      ∙ ap (filter (fits_at cs entry)) (sym (are (first_word entry)))

  pub finds-all : {Z S : Type 0} (words : HashMap (Bor (List ℕ)) (Vec ℕ Z) S) (cs : List Candidate) → cs ≡ map (candidate_of old) packages
      → AreWords packages words → FindsAll cs words
  finds-all words cs e are = subst (λ ds. FindsAll ds words) (sym e) (finds words are)

-- ---- one more package

pub range-more : (n : ℕ) → range_with_len 0 (n + 1) ≡ range_with_len 0 n ++ n ∷ []
range-more n =
    sym (map-id (range_with_len 0 (n + 1))) ∙ map-range_with_len_more (λ x. x) 0 n n (omega arith) ∙ ap (λ xs. xs ++ n ∷ []) (map-id (range_with_len 0 n))

if-one : (b : Bool) (i : ℕ) → filter (λ x. b) (i ∷ []) ≡ (if b then i ∷ [] else [])
if-one true i = refl
if-one false i = refl

pub word-more : (packages : List PackageValue) (first : List ℕ) (i : ℕ) (p : PackageValue) → slice_get packages i ≡ Some p
    → filter (has_word_at packages first) (range_with_len 0 (i + 1))
    ≡ filter (has_word_at packages first) (range_with_len 0 i) ++ (if bytes_eq first (first_word p.name) then i ∷ [] else [])
word-more packages first i p at =
    ap (filter (has_word_at packages first)) (range-more i) ∙ filter-append (has_word_at packages first) (range_with_len 0 i) (i ∷ [])
    ∙ ap (λ xs. filter (has_word_at packages first) (range_with_len 0 i) ++ xs)
    (ap (λ b. filter (λ x. b) (i ∷ [])) (ap (λ o. option_map_or (has_word first) o false) at) ∙ if-one (has_word first p) i)

-- ---- one more place

pub filter_more : (p : ℕ → Bool) (i : ℕ) → filter p (range_with_len 0 (i + 1)) ≡ filter p (range_with_len 0 i) ++ cond (p i) (i ∷ []) []
filter_more p i = ap (filter p) (range-more i) ∙ filter-append p (range_with_len 0 i) (i ∷ [])

pub or-false : (a : Bool) → (a || false) ≡ a
or-false true = refl
or-false false = refl

pub any_more : (p : ℕ → Bool) (i : ℕ) → list_any p (range_with_len 0 (i + 1)) ≡ (list_any p (range_with_len 0 i) || p i)
any_more p i =
    ap (list_any p) (range-more i) ∙ list_any-append p (range_with_len 0 i) (i ∷ []) ∙ ap (λ b. list_any p (range_with_len 0 i) || b) (or-false (p i))

-- a place that passes is kept, and another one is not
pub place-kept : (p : ℕ → Bool) (i : ℕ) (old new : List ℕ) → p i ≡ true → old ≡ filter p (range_with_len 0 i) → new ≡ old ++ i ∷ []
    → new ≡ filter p (range_with_len 0 (i + 1))
place-kept p i old new h is more =
    more ∙ ap (λ xs. xs ++ i ∷ []) is ∙ ap (λ b. filter p (range_with_len 0 i) ++ cond b (i ∷ []) []) (sym h) ∙ sym (filter_more p i)

pub place-dropped : (p : ℕ → Bool) (i : ℕ) (old new : List ℕ) → p i ≡ false → old ≡ filter p (range_with_len 0 i) → new ≡ old
    → new ≡ filter p (range_with_len 0 (i + 1))
place-dropped p i old new h is same =
    same ∙ is ∙ sym (append-nil (filter p (range_with_len 0 i))) ∙ ap (λ b. filter p (range_with_len 0 i) ++ cond b (i ∷ []) []) (sym h) ∙ sym (filter_more p i)
