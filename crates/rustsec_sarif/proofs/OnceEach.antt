-- The first finding about each advisory, found in one pass.
use Rattle.std.proofs.Common.{◌≡◌, ◌∙◌, ◌||◌, ◌+◌, ◌<◌, ◌++◌, ℕ, Bool, true, false, cond, List, [], ◌∷◌, Bor, ap, append-nil, append_assoc, get_or, inl, inr, length, map, refl, suc, sym, take}
use Rattle.std.specs.Cmp.Lexicographic.{bytes_decides, pointwise}
use Rattle.std.specs.List.{list_any, prefix_len}
use Rattle.std.specs.Prelude.{nat_eq, not}
use Rattle.std.proofs.lemmas.Bool.{cases_Bool}
use Rattle.std.proofs.lemmas.List.{map-append, take_more}
use Rattle.std.proofs.lemmas.List.Folds.{list_any-append}
use Rattle.rustsec_check.specs.Values.{FindingValue}
use Rattle.rustsec_sarif.specs.SarifTree.{firsts, if_first, is_same, rule_index}

abbrev id_of : FindingValue → List ℕ
id_of f = f.advisory.metadata.id.text

or-same : (a b : Bool) → b ≡ false → (a || (b || false)) ≡ a
or-same true b h = refl
or-same false b h = rw h refl

-- one more finding changes no test that an earlier one about its advisory meets
absorbed : (x g : FindingValue) (e : List FindingValue) → list_any (is_same g) e ≡ true
    → (list_any (is_same x) e || (is_same x g || false)) ≡ list_any (is_same x) e
absorbed x g e h = elim (cases_Bool (is_same x g)) [
  | inl is ↦
      let found : list_any (is_same x) e ≡ true =
      ap (λ i. list_any (λ (y : FindingValue). pointwise nat_eq i (id_of y)) e) ((bytes_decides (id_of x) (id_of g)).0 is) ∙ h in
      rw found refl
  | inr other ↦ or-same (list_any (is_same x) e) (is_same x g) other
]

one-kept : (x g : FindingValue) (e fs : List FindingValue) (b : Bool) → list_any (is_same g) e ≡ b
    → list_any (is_same x) (e ++ (cond b [] (g ∷ []) ++ fs)) ≡ list_any (is_same x) ((e ++ g ∷ []) ++ fs)
one-kept x g e fs true h =
    let p : FindingValue → Bool = is_same x in
    let with : list_any p (e ++ g ∷ []) ≡ list_any p e = list_any-append p e (g ∷ []) ∙ absorbed x g e h in
    list_any-append p e fs ∙ ap (λ b. b || list_any p fs) (sym with) ∙ sym (list_any-append p (e ++ g ∷ []) fs)
one-kept x g e fs false h = ap (list_any (is_same x)) (sym (append_assoc e (g ∷ []) fs))

-- a test of sameness finds among the first ones what it finds among all
kept : (x : FindingValue) (e fs : List FindingValue) → list_any (is_same x) (e ++ firsts e fs) ≡ list_any (is_same x) (e ++ fs)
unfolding firsts
kept x e [] = refl
kept x e (g ∷ fs) =
    one-kept x g e (firsts (e ++ g ∷ []) fs) (list_any (is_same g) e) refl ∙ kept x (e ++ g ∷ []) fs
    ∙ ap (list_any (is_same x)) (append_assoc e (g ∷ []) fs)

firsts-more : (e fs : List FindingValue) (f : FindingValue) → firsts e (fs ++ f ∷ []) ≡ firsts e fs ++ if_first (e ++ fs) f
unfolding firsts
firsts-more e [] f = append-nil (if_first e f) ∙ ap (λ xs. if_first xs f) (sym (append-nil e))
firsts-more e (g ∷ fs) f =
    ap (λ xs. if_first e g ++ xs) (firsts-more (e ++ g ∷ []) fs f)
    ∙ ap (λ xs. if_first e g ++ (firsts (e ++ g ∷ []) fs ++ if_first xs f)) (append_assoc e (g ∷ []) fs)
    ∙ sym (append_assoc (if_first e g) (firsts (e ++ g ∷ []) fs) (if_first (e ++ g ∷ fs) f))

-- one finding more: it is a first one unless one of the first ones is about its advisory
pub firsts_step : (fs : List FindingValue) (i : ℕ) (d : FindingValue) → i < length fs
    → firsts [] (take (i + 1) fs) ≡ firsts [] (take i fs) ++ if_first (firsts [] (take i fs)) (get_or fs i d)
firsts_step fs i d lt =
    let f = get_or fs i d in
    let before = take i fs in
    ap (firsts []) (take_more fs i d lt) ∙ firsts-more [] before f
    ∙ ap (λ b. firsts [] before ++ cond b [] (f ∷ [])) (sym (kept f [] before))

-- ---- findings that references refer to

pub any_same : (f : FindingValue) (fs : List (Bor FindingValue))
    → list_any (is_same f) (map (λ g. g.now) fs) ≡ list_any (λ g. is_same f g.now) fs
any_same f [] = refl
any_same f (g ∷ fs) = ap (λ b. is_same f g.now || b) (any_same f fs)

pub index_same : (f : FindingValue) (fs : List (Bor FindingValue))
    → rule_index (map (λ g. g.now) fs) f ≡ prefix_len (λ g. not (is_same f g.now)) fs
index_same f [] = refl
index_same f (g ∷ fs) = ap (λ n. cond (not (is_same f g.now)) (1 + n) 0) (index_same f fs)

pub count_same : (fs : List (Bor FindingValue)) → length (map (λ g. g.now) fs) ≡ length fs
count_same [] = refl
count_same (g ∷ fs) = ap suc (count_same fs)

-- ---- one more finding that a reference refers to

abbrev seen : List (Bor FindingValue) → List FindingValue
seen fs = map (λ g. g.now) fs

none-same : (f : FindingValue) (fs items : List (Bor FindingValue)) (b a : Bool) → b ≡ list_any (λ g. is_same f g.now) items → items ≡ fs → b ≡ a
    → list_any (is_same f) (seen fs) ≡ a
none-same f fs items b a h e k = any_same f fs ∙ sym (ap (λ xs. list_any (λ (g : Bor FindingValue). is_same f g.now) xs) e) ∙ sym h ∙ k

pub first_pushed : (f : Bor FindingValue) (fs items : List (Bor FindingValue)) (b : Bool) → b ≡ list_any (λ g. is_same f.now g.now) items → items ≡ fs
    → b ≡ false → seen (fs ++ f ∷ []) ≡ seen fs ++ if_first (seen fs) f.now
first_pushed f fs items b h e k =
    map-append (λ (g : Bor FindingValue). g.now) fs (f ∷ [])
    ∙ ap (λ c. seen fs ++ cond c [] (f.now ∷ [])) (sym (none-same f.now fs items b false h e k))

pub first_kept : (f : Bor FindingValue) (fs items : List (Bor FindingValue)) (b : Bool) → b ≡ list_any (λ g. is_same f.now g.now) items → items ≡ fs
    → b ≡ true → seen fs ≡ seen fs ++ if_first (seen fs) f.now
first_kept f fs items b h e k =
    sym (append-nil (seen fs)) ∙ ap (λ c. seen fs ++ cond c [] (f.now ∷ [])) (sym (none-same f.now fs items b true h e k))
