-- Events that rise, no two of them at one version, have one rising order.
use Rattle.std.proofs.Common.{◌≡◌, ◌∙◌, ◌⊎◌, ◌&&◌, Bool, true, false, List, [], ◌∷◌, IsPermutation, inl, inr, map, refl, sym}
use Rattle.std.specs.List.{AllByRecursion}
use Rattle.std.specs.List.Sorted.{IsSorted}
use Rattle.std.proofs.lemmas.List.Sorted.{IsPermutation-sym}
use Rattle.semver.specs.Parse.{Parts}
use Rattle.rustsec_versions.specs.order.Precedence.{is_at_most, is_below, precedence}
use Rattle.rustsec_versions.proofs.lemmas.order.PrecedenceLaws.{at_most-trans, below-not_at_most, below-weak, not_at_most}
use Rattle.rustsec_versions.proofs.lemmas.order.Rising.{Rises, Rises-from, Rises-tail}
use Rattle.rustsec_versions.proofs.lemmas.lists.Shuffled.{Shuffled, both, keep, same, shuffled, turn}
use Rattle.rustsec_osv_rules.specs.evaluation.Event.{Event, version_of}

-- ---- versions that tie

abbrev pub tie : Parts → Parts → Bool
tie v w = is_at_most v w && is_at_most w v

and-turned : (a b : Bool) → (a && b) ≡ (b && a)
and-turned true true = refl
and-turned true false = refl
and-turned false true = refl
and-turned false false = refl

tie-turned : (v w : Parts) → tie v w ≡ false → tie w v ≡ false
tie-turned v w h = and-turned (is_at_most w v) (is_at_most v w) ∙ h

second-false : (a b : Bool) → a ≡ true → (a && b) ≡ false → b ≡ false
second-false true b h k = k
second-false false b h k = cc h

-- no event of a list is at a version
abbrev pub Other : Parts → List Event → Type 0
Other v es = AllByRecursion (λ f. tie v (version_of f) ≡ false) es

-- no two events are at one version
abbrev pub Own : List Event → Type 0
Own [] = Unit {0}
Own (e ∷ es) = Other (version_of e) es × Own es

other_shuffled : (v : Parts) {xs ys : List Event} → Shuffled xs ys → Other v xs → Other v ys
other_shuffled v (same xs) a = a
other_shuffled v (keep x s) a = (a.0, other_shuffled v s a.1)
other_shuffled v (turn x y xs) a = (a.1.0, (a.0, a.1.1))
other_shuffled v (both s t) a = other_shuffled v t (other_shuffled v s a)

own_shuffled : {xs ys : List Event} → Shuffled xs ys → Own xs → Own ys
own_shuffled (same xs) o = o
own_shuffled (keep x s) o = (other_shuffled (version_of x) s o.0, own_shuffled s o.1)
own_shuffled (turn x y xs) o = ((tie-turned (version_of x) (version_of y) o.0.0, o.1.0), (o.0.1, o.1.1))
own_shuffled (both s t) o = own_shuffled t (own_shuffled s o)

-- ---- events that rise strictly

abbrev AtOrAbove : Parts → List Event → Type 0
AtOrAbove v es = AllByRecursion (λ f. is_at_most v (version_of f) ≡ true) es

abbrev Above : Parts → List Event → Type 0
Above v es = AllByRecursion (λ f. is_below v (version_of f) ≡ true) es

abbrev Strict : List Event → Type 0
Strict [] = Unit {0}
Strict (e ∷ es) = Above (version_of e) es × Strict es

lower : (v w : Parts) (es : List Event) → is_at_most v w ≡ true → AtOrAbove w es → AtOrAbove v es
lower v w [] h a = tt
lower v w (e ∷ es) h a = (at_most-trans v w (version_of e) h a.0, lower v w es h a.1)

far : (v : Parts) (es : List Event) → Rises (v ∷ map version_of es) → AtOrAbove v es
far v [] r = tt
far v (f ∷ es) r = (r.0, lower v (version_of f) es r.0 (far (version_of f) es r.1))

above : (v : Parts) (es : List Event) → AtOrAbove v es → Other v es → Above v es
above v [] a o = tt
above v (f ∷ es) a o = (not_at_most (version_of f) v (second-false _ _ a.0 o.0), above v es a.1 o.1)

strict-from : (es : List Event) → Rises (map version_of es) → Own es → Strict es
strict-from [] r o = tt
strict-from (e ∷ es) r o = (above (version_of e) es (far (version_of e) es r) o.0, strict-from es (Rises-tail (version_of e) (map version_of es) r) o.1)

-- ---- what is in a list

abbrev In : Event → List Event → Type 0
In x [] = ⊥
In x (y ∷ ys) = (x ≡ y) ⊎ In x ys

in_shuffled : (x : Event) {xs ys : List Event} → Shuffled xs ys → In x xs → In x ys
in_shuffled x (same xs) h = h
in_shuffled x (keep y s) (inl h) = inl h
in_shuffled x (keep y s) (inr h) = inr (in_shuffled x s h)
in_shuffled x (turn y z xs) (inl h) = inr (inl h)
in_shuffled x (turn y z xs) (inr (inl h)) = inl h
in_shuffled x (turn y z xs) (inr (inr h)) = inr (inr h)
in_shuffled x (both s t) h = in_shuffled x t (in_shuffled x s h)

above-in : (v : Parts) (x : Event) (es : List Event) → Above v es → In x es → is_below v (version_of x) ≡ true
above-in v x [] a h = absurd h
above-in v x (e ∷ es) a (inl h) = rw h a.0
above-in v x (e ∷ es) a (inr h) = above-in v x es a.1 h

not-both : {P : Type 0} (v w : Parts) → is_below v w ≡ true → is_below w v ≡ true → P
not-both v w h k = absurd (cc (sym (below-weak w v k) ∙ below-not_at_most v w h))

heads-same : (x y : Event) (xs ys : List Event) → Above (version_of x) xs → Above (version_of y) ys → (x ≡ y) ⊎ In x ys → (y ≡ x) ⊎ In y xs → x ≡ y
heads-same x y xs ys a b (inl h) k = h
heads-same x y xs ys a b (inr h) (inl k) = sym k
heads-same x y xs ys a b (inr h) (inr k) =
    not-both (version_of x) (version_of y) (above-in (version_of x) y xs a k) (above-in (version_of y) x ys b h)

tails-in : (x y z : Event) (xs ys : List Event) → x ≡ y → Above (version_of x) xs → In z xs → (z ≡ y) ⊎ In z ys → In z ys
tails-in x y z xs ys is a h (inl k) =
    let up : is_below (version_of x) (version_of x) ≡ true = rw (k ∙ sym is) at (above-in (version_of x) z xs a h) in
    not-both (version_of x) (version_of x) up up
tails-in x y z xs ys is a h (inr k) = k

strict-same : (xs ys : List Event) → Strict xs → Strict ys → ((x : Event) → In x xs → In x ys) → ((x : Event) → In x ys → In x xs) → xs ≡ ys
strict-same [] [] s t f g = refl
strict-same [] (y ∷ ys) s t f g = absurd (g y (inl refl))
strict-same (x ∷ xs) [] s t f g = absurd (f x (inl refl))
strict-same (x ∷ xs) (y ∷ ys) s t f g =
    let first = heads-same x y xs ys s.0 t.0 (f x (inl refl)) (g y (inl refl)) in
    let rest = strict-same xs ys s.1 t.1 (λ z h. tails-in x y z xs ys first s.0 h (f z (inr h))) (λ z h. tails-in y x z ys xs (sym first) t.0 h (g z (inr h))) in
    λ i. first i ∷ rest i

-- events that rise, no two of them at one version, are the same in any order in which they rise
pub one-order : (es ordered : List Event) → Rises (map version_of es) → Own es → IsPermutation es ordered → IsSorted precedence (map version_of ordered)
    → ordered ≡ es
one-order es ordered r o p s =
    let there = shuffled es ordered p in
    let back = shuffled ordered es (IsPermutation-sym es ordered p) in
    strict-same ordered es (strict-from ordered (Rises-from (map version_of ordered) s) (own_shuffled there o)) (strict-from es r o)
    (λ x h. in_shuffled x back h) (λ x h. in_shuffled x there h)
