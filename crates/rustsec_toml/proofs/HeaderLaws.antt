-- The headers of packages, token by token.
use Rattle.std.proofs.Common.{◌≡◌, ◌∙◌, ◌==◌, ◌+◌, ◌-◌, ◌<◌, ◌≤◌, ◌++◌, ◌↔◌, ℕ, zero, suc, Bool, List, [], ◌∷◌, add-suc, add-zero, ap, arith, false, get_or, inl, inr, length, length-append, map, nat_eq, refl, sym, subst, true, Contains, IsTrue}
use Rattle.std.proofs.lemmas.Bool.{cases_lt, eqb-true, true≢false}
use Rattle.std.specs.Cmp.Lexicographic.{bytes_decides, pointwise}
use Rattle.std.proofs.lemmas.List.{get_or_append_left, get_or_default}
use Rattle.std.proofs.lemmas.List.Elements.{Contains-append_cases, Contains-append_left, Contains-append_right}
use Rattle.std.proofs.Math.Seq.{get_or-append_seam}
use Rattle.std.specs.List.Sorted.{IsStrictlyIncreasing}
use Rattle.toml_parser.specs.Lexical.{skip_from}
use Rattle.toml_parser.specs.Strings.{Key}
use Rattle.rustsec_toml.specs.Places.{ArePackages, IsPackageAt, after_token, from_token, next_token, place_past, up_to}
use Rattle.rustsec_toml.specs.declared.place.Place.{Place}

-- ---- the key of a header

pub named : {A : Type 0} (f : A → List ℕ) (xs : List A) (last name : List ℕ) (is : Bool) → (length xs == 0) ≡ true → is ≡ pointwise nat_eq last name
    → IsTrue is ↔ (◌≡◌ {A = Key} (map f xs, last) ([], name))
named f [] last name is none e =
    (λ h. let f : List ℕ → Key = λ l. ([], l) in ap f ((bytes_decides last name).0 (sym e ∙ h)), λ h. e ∙ (bytes_decides last name).1 (let g : Key → List ℕ = λ p. p.1 in ap g h))
named f (x ∷ xs) last name is none e = absurd (omega (arith, eqb-true (length (x ∷ xs)) 0 none))

pub longer : {A : Type 0} (f : A → List ℕ) (xs : List A) (last name : List ℕ) (is : Bool) → (length xs == 0) ≡ false → is ≡ false
    → IsTrue is ↔ (◌≡◌ {A = Key} (map f xs, last) ([], name))
longer f [] last name is some e = absurd (true≢false some)
longer f (x ∷ xs) last name is some e =
    (λ h. absurd (true≢false (sym h ∙ e)), λ h. let g : Key → List (List ℕ) = λ p. p.0 in let same = ap g h in cc same)

-- ---- the headers of the first tokens

pub record Found (text : List ℕ) (places : List Place) (n : ℕ) : Type 0 where
  pub tokens : List ℕ
  pub rising : IsStrictlyIncreasing tokens
  pub all : (m : ℕ) → Contains tokens m ↔ ((m < n) × IsPackageAt text m)
  pub shown : places ≡ map (λ m. place_past (up_to (from_token text m) text)) tokens

pub found-none : (text : List ℕ) → Found text [] 0
found-none text = record { tokens = []; rising = λ k l. absurd (omega arith); all = λ m. (λ h. absurd (omega (arith, h.1)), λ h. absurd (omega (arith, h.0))); shown = refl }

pub found-skip : (text : List ℕ) (places : List Place) (n : ℕ) → ¬ IsPackageAt text n → Found text places n → Found text places (n + 1)
found-skip text places n not f = record {
  tokens = f.tokens;
  rising = f.rising;
  all = λ m. (
    λ h. (omega (arith, ((f.all m).0 h).0), ((f.all m).0 h).1),
    λ h. elim (cases_lt m n) [
      | inl low ↦ (f.all m).1 (low, h.1)
      | inr high ↦ absurd (not (subst (λ k. IsPackageAt text k) (let e : m ≡ n = omega (arith, h.0) in e) h.1))
    ],
  );
  shown = f.shown;
}

at-front : (xs : List ℕ) (k : ℕ) → k < length xs → Contains xs (get_or xs k 0)
at-front xs k l = (k, l, get_or_default xs k (get_or xs k 0) 0 l)

rising-more : (xs : List ℕ) (n : ℕ) → IsStrictlyIncreasing xs → ((m : ℕ) → Contains xs m → m < n) → IsStrictlyIncreasing (xs ++ n ∷ [])
rising-more xs n rising below k l =
    let len = length-append xs (n ∷ []) in
    let here = get_or_append_left xs (n ∷ []) 0 k (omega (arith, len)) in
    elim (cases_lt (k + 1) (length xs)) [
      | inl within ↦ omega (arith, here, get_or_append_left xs (n ∷ []) 0 (k + 1) within, rising k within)
      | inr last ↦
          let e : k + 1 ≡ length xs = omega (arith, len) in
          let new : get_or (xs ++ n ∷ []) (k + 1) 0 ≡ n = ap (λ i. get_or (xs ++ n ∷ []) i 0) e ∙ get_or-append_seam xs n [] 0 in
          omega (arith, here, new, below _ (at-front xs k (omega arith)))
    ]

map-more : (f : ℕ → Place) (xs : List ℕ) (n : ℕ) → map f (xs ++ n ∷ []) ≡ map f xs ++ f n ∷ []
map-more f [] n = refl
map-more f (x ∷ xs) n = ap (λ ps. f x ∷ ps) (map-more f xs n)

only : (n m : ℕ) → Contains (n ∷ []) m → n ≡ m
only n m (zero, l, e) = e
only n m (suc k, l, e) = absurd (omega arith)

pub found-more : (text : List ℕ) (places : List Place) (n : ℕ) (p : Place) → IsPackageAt text n → p ≡ place_past (up_to (from_token text n) text)
    → Found text places n → Found text (places ++ p ∷ []) (n + 1)
found-more text places n p is at f = record {
  tokens = f.tokens ++ n ∷ [];
  rising = rising-more f.tokens n f.rising (λ m h. ((f.all m).0 h).0);
  all = λ m. (
    λ h. elim (Contains-append_cases f.tokens (n ∷ []) m h) [
      | inl old ↦ (omega (arith, ((f.all m).0 old).0), ((f.all m).0 old).1)
      | inr new ↦
          let e : n ≡ m = only n m new in
          (omega (arith, e), subst (λ k. IsPackageAt text k) e is)
    ],
    λ h. elim (cases_lt m n) [
      | inl low ↦ Contains-append_left f.tokens (n ∷ []) m ((f.all m).1 (low, h.1))
      | inr high ↦ Contains-append_right f.tokens (n ∷ []) m (0, omega arith, let e : n ≡ m = omega (arith, h.0) in e)
    ],
  );
  shown =
      let place : ℕ → Place = λ m. place_past (up_to (from_token text m) text) in
      ap (λ ps. ps ++ p ∷ []) f.shown ∙ ap (λ q. map place f.tokens ++ q ∷ []) at ∙ sym (map-more place f.tokens n);
}

-- no token comes after the last one
later-none : (text : List ℕ) (n d : ℕ) → from_token text n ≡ [] → from_token text (n + d) ≡ []
unfolding from_token after_token skip_from
later-none text n zero h = rw add-zero h
later-none text n (suc d) h = rw add-suc (rw (later-none text n d h) refl)

none-there : (text : List ℕ) (m : ℕ) → IsPackageAt text m → from_token text m ≡ [] → ⊥
none-there text m h e = let same = sym e ∙ h.opened in cc same

pub found-all : (text : List ℕ) (places : List Place) (n : ℕ) → from_token text n ≡ [] → Found text places n → ArePackages text places
found-all text places n over f = record {
  tokens = f.tokens;
  rising = f.rising;
  all = λ m. (
    λ h. ((f.all m).0 h).1,
    λ h. elim (cases_lt m n) [
      | inl low ↦ (f.all m).1 (low, h)
      | inr high ↦ absurd (none-there text m h (let e : n + (m - n) ≡ m = omega arith in ap (from_token text) (sym e) ∙ later-none text n (m - n) over))
    ],
  );
  shown = f.shown;
}
