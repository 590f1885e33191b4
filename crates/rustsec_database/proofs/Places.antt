-- Places in lists, and the elements at given places.
use Rattle.std.proofs.Common.{◌≡◌, ◌∙◌, ◌+◌, ◌<◌, ◌++◌, ◌||◌, ℕ, suc, Bool, true, false, cond, List, [], ◌∷◌, Option, Some, None, get_or, length, map, take, refl, sym, ap, append_assoc, arith, length-append}
use Rattle.std.specs.Borrow.{Bor}
use Rattle.std.specs.Option.{is_some}
use Rattle.std.specs.List.{All, cons_option, filter, filter_map, find, list_any, position_from, slice_get}
use Rattle.std.proofs.lemmas.List.Elements.{All-cons, filter-append, filter_map-append}
use Rattle.std.proofs.lemmas.List.{append-nil, map-append, take_more}
use Rattle.rustsec_database.specs.Places.{at_places, places_from}

pub is-false : (b : Bool) → (b ≡ true → ⊥) → b ≡ false
is-false true = λ h. absurd (h refl)
is-false false = λ h. refl

pub neither : (a b : Bool) → (a || b) ≡ false → (a ≡ false) × (b ≡ false)
neither true b = λ h. absurd (cc h)
neither false b = λ h. (refl, h)

same-first : (b : Bool) (i : ℕ) (o p : Option ℕ) → o ≡ p → cond b (Some i) o ≡ cond b (Some i) p
same-first true i o p h = refl
same-first false i o p h = h

places-step : (b : Bool) (i : ℕ) (us vs ws : List ℕ) → us ≡ vs ++ ws → cond b (i ∷ us) us ≡ cond b (i ∷ vs) vs ++ ws
places-step true i us vs ws h = ap (λ xs. i ∷ xs) h
places-step false i us vs ws h = h

same-places : (b : Bool) (i : ℕ) (us vs : List ℕ) → us ≡ vs → cond b (i ∷ us) us ≡ cond b (i ∷ vs) vs
same-places true i us vs h = ap (λ xs. i ∷ xs) h
same-places false i us vs h = h

all-step : (P : ℕ → Type 0) (b : Bool) (i : ℕ) (us : List ℕ) → P i → All P us → All P (cond b (i ∷ us) us)
all-step P true i us p h = All-cons P i us p h
all-step P false i us p h = h

module _ {A : Type 0} where
  -- the first place at which a test holds, if it holds for an element after a list in which it holds nowhere
  pub first-last : (test : A → Bool) (i : ℕ) (xs : List A) (x : A) → list_any test xs ≡ false → test x ≡ true
      → position_from test i (xs ++ x ∷ []) ≡ Some (i + length xs)
  first-last test i [] x none holds = rw holds (ap Some (omega arith))
  first-last test i (y ∷ ys) x none holds =
      let parts = neither (test y) (list_any test ys) none in
      rw parts.0 (first-last test (i + 1) ys x parts.1 holds ∙ ap Some (omega arith))

  -- one more element for which the test does not hold keeps the first place
  pub first-other : (test : A → Bool) (i : ℕ) (xs : List A) (x : A) → test x ≡ false → position_from test i (xs ++ x ∷ []) ≡ position_from test i xs
  first-other test i [] x fails = rw fails refl
  first-other test i (y ∷ ys) x fails = same-first (test y) i _ _ (first-other test (i + 1) ys x fails)

  found-step : (b : Bool) (i n : ℕ) (x : A) (xs : List A) (o : Option ℕ) (r : Option A) → Some n ≡ cond b (Some i) o
      → (Some n ≡ o → (k : ℕ) × (n ≡ i + 1 + k) × (slice_get xs k ≡ r))
      → (k : ℕ) × (n ≡ i + k) × (slice_get (x ∷ xs) k ≡ cond b (Some x) r)
  found-step true i n x xs o r is more = let same : n ≡ i = cc is in (0, omega (arith, same), refl)
  found-step false i n x xs o r is more = let m = more is in (suc m.0, omega (arith, m.1), m.2)

  found-from : (test : A → Bool) (i n : ℕ) (xs : List A) → Some n ≡ position_from test i xs → (k : ℕ) × (n ≡ i + k) × (slice_get xs k ≡ find test xs)
  found-from test i n [] is = absurd (cc is)
  found-from test i n (x ∷ xs) is =
      found-step (test x) i n x xs (position_from test (i + 1) xs) (find test xs) is (found-from test (i + 1) n xs)

  -- the element at the first place is the first element for which the test holds
  pub found-at : (test : A → Bool) (n : ℕ) (xs : List A) → Some n ≡ position_from test 0 xs → slice_get xs n ≡ find test xs
  found-at test n xs is =
      let h = found-from test 0 n xs is in
      let same : n ≡ h.0 = omega (arith, h.1) in
      ap (slice_get xs) same ∙ h.2

  none-step : (b : Bool) (i : ℕ) (x : A) (o : Option ℕ) (r : Option A) → None ≡ cond b (Some i) o → (None ≡ o → None ≡ r) → None ≡ cond b (Some x) r
  none-step true i x o r is more = absurd (cc is)
  none-step false i x o r is more = more is

  pub none-at : (test : A → Bool) (i : ℕ) (xs : List A) → None ≡ position_from test i xs → None ≡ find test xs
  none-at test i [] is = refl
  none-at test i (x ∷ xs) is = none-step (test x) i x _ _ is (none-at test (i + 1) xs)

  -- ---- all places at which a test holds

  pub places-in : (test : A → Bool) (i : ℕ) (xs : List A) (x : A) → test x ≡ true → places_from test i (xs ++ x ∷ []) ≡ places_from test i xs ++ (i + length xs) ∷ []
  places-in test i [] x holds = rw holds (ap (λ (n : ℕ). n ∷ []) (omega arith))
  places-in test i (y ∷ ys) x holds =
      let here : i + 1 + length ys ≡ i + length (y ∷ ys) = omega arith in
      places-step (test y) i _ _ _ (places-in test (i + 1) ys x holds ∙ ap (λ (n : ℕ). places_from test (i + 1) ys ++ n ∷ []) here)

  pub places-out : (test : A → Bool) (i : ℕ) (xs : List A) (x : A) → test x ≡ false → places_from test i (xs ++ x ∷ []) ≡ places_from test i xs
  places-out test i [] x fails = rw fails refl
  places-out test i (y ∷ ys) x fails = same-places (test y) i _ _ (places-out test (i + 1) ys x fails)

  pub places-below : (test : A → Bool) (i n : ℕ) (xs : List A) → i + length xs ≡ n → All (λ k. k < n) (places_from test i xs)
  places-below test i n [] e = λ k d l. absurd (omega (arith, l))
  places-below test i n (y ∷ ys) e =
      all-step (λ k. k < n) (test y) i _ (omega (arith, e)) (places-below test (i + 1) n ys (omega (arith, e)))

  -- ---- the elements at places

  pub got-last : (xs : List A) (x : A) (ys : List A) → slice_get (xs ++ x ∷ ys) (length xs) ≡ Some x
  got-last [] x ys = refl
  got-last (y ∷ xs) x ys = got-last xs x ys

  taken-step : (b : Bool) (zs : List A) (n : ℕ) (x : A) (ps : List ℕ) (rest : List A) → slice_get zs n ≡ Some x → filter_map (slice_get zs) ps ≡ rest
      → filter_map (slice_get zs) (cond b (n ∷ ps) ps) ≡ cond b (x ∷ rest) rest
  taken-step true zs n x ps rest at h = rw (at, h) refl
  taken-step false zs n x ps rest at h = h

  taken-from : (test : A → Bool) (zs xs ys : List A) (n : ℕ) → ys ≡ zs ++ xs → n ≡ length zs → filter_map (slice_get ys) (places_from test n xs) ≡ filter test xs
  taken-from test zs [] ys n is len = refl
  taken-from test zs (x ∷ xs) ys n is len =
      let at : slice_get ys n ≡ Some x = (λ i. slice_get (is i) (len i)) ∙ got-last zs x xs in
      let longer : n + 1 ≡ length (zs ++ x ∷ []) = omega (arith, len, length-append zs (x ∷ [])) in
      taken-step (test x) ys n x (places_from test (n + 1) xs) (filter test xs) at
      (taken-from test (zs ++ x ∷ []) xs ys (n + 1) (is ∙ sym (append_assoc zs (x ∷ []) xs)) longer)

  -- the elements at the places at which a test holds are those for which it holds
  pub taken : (test : A → Bool) (xs : List A) → at_places (places_from test 0 xs) xs ≡ filter test xs
  taken test xs = taken-from test [] xs xs 0 refl refl

  narrow-step : (p q : A → Bool) (x : A) (us xs : List A) (b : Bool) → p x ≡ b → (q x ≡ true → p x ≡ true) → filter q us ≡ filter q xs
      → filter q (cond b (x ∷ us) us) ≡ cond (q x) (x ∷ filter q xs) (filter q xs)
  narrow-step p q x us xs true is only h = rw h refl
  narrow-step p q x us xs false is only h =
      rw (is-false (q x) (λ t. cc (sym (only t) ∙ is))) h

  -- a filter after a wider filter gives the same as the filter alone
  pub narrow : (p q : A → Bool) → ((x : A) → q x ≡ true → p x ≡ true) → (xs : List A) → filter q (filter p xs) ≡ filter q xs
  narrow p q only [] = refl
  narrow p q only (x ∷ xs) = narrow-step p q x (filter p xs) xs (p x) refl (only x) (narrow p q only xs)

  -- one more place adds its element, if the element passes the test
  pub taken-more : (test : A → Bool) (places : List ℕ) (i d : ℕ) (xs : List A) → i < length places
      → filter test (at_places (take (i + 1) places) xs)
      ≡ filter test (at_places (take i places) xs) ++ filter test (cons_option (slice_get xs (get_or places i d)) [])
  taken-more test places i d xs l =
      ap (λ ps. filter test (at_places ps xs)) (take_more places i d l)
      ∙ (ap (filter test) (filter_map-append (slice_get xs) (take i places) (get_or places i d ∷ []))
      ∙ filter-append test (at_places (take i places) xs) (cons_option (slice_get xs (get_or places i d)) []))

  -- ---- a loop over places

  one-test : (test : A → Bool) (o : Option A) (x : A) (b : Bool) → Some x ≡ o → test x ≡ b → filter test (cons_option o []) ≡ cond b (x ∷ []) []
  one-test test o x b is at = ap (λ p. filter test (cons_option p [])) (sym is) ∙ ap (λ c. cond c (x ∷ []) []) at

  step-at : (test : A → Bool) (places : List ℕ) (i n : ℕ) (xs : List A) → i < length places → n ≡ get_or places i n
      → filter test (at_places (take (i + 1) places) xs) ≡ filter test (at_places (take i places) xs) ++ filter test (cons_option (slice_get xs n) [])
  step-at test places i n xs l is =
      taken-more test places i n xs l ∙ ap (λ k. filter test (at_places (take i places) xs) ++ filter test (cons_option (slice_get xs k) [])) (sym is)

  pub found-more : (test : A → Bool) (places : List ℕ) (i n : ℕ) (xs : List A) (found : List (Bor A)) (x : Bor A) → i < length places
      → n ≡ get_or places i n → map (λ y. y.now) found ≡ filter test (at_places (take i places) xs) → Some x.now ≡ slice_get xs n
      → test x.now ≡ true → map (λ y. y.now) (found ++ x ∷ []) ≡ filter test (at_places (take (i + 1) places) xs)
  found-more test places i n xs found x l is before at holds =
      map-append (λ (y : Bor A). y.now) found (x ∷ [])
      ∙ (ap (λ ys. ys ++ x.now ∷ []) before
      ∙ (ap (λ ys. filter test (at_places (take i places) xs) ++ ys) (sym (one-test test (slice_get xs n) x.now true at holds))
      ∙ sym (step-at test places i n xs l is)))

  pub found-other : (test : A → Bool) (places : List ℕ) (i n : ℕ) (xs : List A) (found : List (Bor A)) (x : A) → i < length places
      → n ≡ get_or places i n → map (λ y. y.now) found ≡ filter test (at_places (take i places) xs) → Some x ≡ slice_get xs n
      → test x ≡ false → map (λ y. y.now) found ≡ filter test (at_places (take (i + 1) places) xs)
  found-other test places i n xs found x l is before at fails =
      before
      ∙ (sym (append-nil _)
      ∙ (ap (λ ys. filter test (at_places (take i places) xs) ++ ys) (sym (one-test test (slice_get xs n) x false at fails))
      ∙ sym (step-at test places i n xs l is)))

  pub found-none : (test : A → Bool) (places : List ℕ) (i n : ℕ) (xs : List A) (found : List (Bor A)) → i < length places
      → n ≡ get_or places i n → map (λ y. y.now) found ≡ filter test (at_places (take i places) xs) → None ≡ slice_get xs n
      → map (λ y. y.now) found ≡ filter test (at_places (take (i + 1) places) xs)
  found-none test places i n xs found l is before at =
      before
      ∙ (sym (append-nil _)
      ∙ (ap (λ o. filter test (at_places (take i places) xs) ++ filter test (cons_option o [])) at
      ∙ sym (step-at test places i n xs l is)))

  pub found-far : (test : A → Bool) (places : List ℕ) (i n : ℕ) (xs : List A) (found : List (Bor A)) (o : Option A) → i < length places
      → n ≡ get_or places i n → map (λ y. y.now) found ≡ filter test (at_places (take i places) xs) → o ≡ slice_get xs n
      → ((x : A) → o ≡ Some x → test x ≡ false) → map (λ y. y.now) found ≡ filter test (at_places (take (i + 1) places) xs)
  found-far test places i n xs found None l is before at fails = found-none test places i n xs found l is before at
  found-far test places i n xs found (Some x) l is before at fails = found-other test places i n xs found x l is before at (fails x refl)

  any-step : (b c : Bool) (x : A) (o : Option A) → is_some o ≡ c → is_some (cond b (Some x) o) ≡ (b || c)
  any-step true c x o h = refl
  any-step false c x o h = h

  pub find-any : (test : A → Bool) (xs : List A) → is_some (find test xs) ≡ list_any test xs
  find-any test [] = refl
  find-any test (x ∷ xs) = any-step (test x) (list_any test xs) x (find test xs) (find-any test xs)
