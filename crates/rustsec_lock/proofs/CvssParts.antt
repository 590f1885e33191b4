-- The text after a prefix, and the only match among several parts.
use Rattle.std.proofs.Common.{◌≡◌, ◌∙◌, ◌==◌, ℕ, ◌+◌, ◌<◌, ◌≤◌, true, false, List, [], ◌∷◌, ◌++◌, Option, Some, None, option_map, is_some, map, filter_map, drop, get_or, length, nat_eq, refl, take, sym, ap, subst, add-one, drop-cons, append-nil, arith}
use Rattle.std.proofs.lemmas.Bool.{ne_eqb}
use Rattle.std.proofs.lemmas.Iterator.{YieldsList, YieldsList-from_take}
use Rattle.std.proofs.lemmas.List.{drop_all}
use Rattle.std.proofs.lemmas.Str.Pattern.{starts_text}
use Rattle.std.specs.Iterator.Adapters.{take_count, take_source, take_steps}
use Rattle.std.specs.List.{starts_with}
use Rattle.std.specs.Option.{MatchOption}
use Rattle.std.specs.Str.{IsCharBoundary}
use Rattle.std.specs.Str.Pattern.{FindsTextPrefix, StripsPrefix}
use Rattle.std.specs.declared.iter.Take.{Take}
use denote.Ref.{Bor}
use Rattle.rustsec_values.specs.Reading.{only_if}
use Rattle.rustsec_lock.specs.Cvss.{base_of, after_prefix, metric_letter, lone, metrics_of, parts_of}

pub after_prefix_from_strip : (p s : List ℕ) (r : Option (Bor (List ℕ)))
    → MatchOption r (FindsTextPrefix p s None) (λ x. StripsPrefix (FindsTextPrefix p) s x.now)
    → option_map (λ t. t.now) r ≡ after_prefix p s
after_prefix_from_strip p s None h = rw (sym (starts_text false p s h)) refl
after_prefix_from_strip p s (Some x) (n, finds, cut, rest) =
    let e : true ≡ starts_with nat_eq s p = starts_text true p s (n, finds, subst (λ k. IsCharBoundary s k) (sym finds.0) finds.2) in
    rw (sym e) (ap Some (cut ∙ ap (λ k. drop k s) finds.0))

-- what was found so far, as a list
abbrev pub listed : Option (Bor (List ℕ)) → List (List ℕ)
listed None = []
listed (Some x) = x.now ∷ []

-- what is found among the parts that are left, from an index on
abbrev pub found_from : List ℕ → List (Bor (List ℕ)) → ℕ → List (List ℕ)
found_from name parts k = filter_map (after_prefix name) (map (λ p. p.now) (drop k parts))

-- a value that may be missing, put before a list
abbrev pub put_before : Option (List ℕ) → List (List ℕ) → List (List ℕ)
put_before None xs = xs
put_before (Some y) xs = y ∷ xs

filter-cons : (h : List ℕ → Option (List ℕ)) (x : List ℕ) (xs : List (List ℕ)) (o : Option (List ℕ)) → h x ≡ o
    → filter_map h (x ∷ xs) ≡ put_before o (filter_map h xs)
filter-cons h x xs None e = rw e refl
filter-cons h x xs (Some y) e = rw e refl

pub found_more : (name : List ℕ) (parts : List (Bor (List ℕ))) (k : ℕ) (d : Bor (List ℕ)) (o : Option (List ℕ)) → k < length parts
    → after_prefix name (get_or parts k d).now ≡ o → found_from name parts k ≡ put_before o (found_from name parts (k + 1))
found_more name parts k d o h e =
    rw (add-one, drop-cons parts k d h) (filter-cons (after_prefix name) (get_or parts k d).now _ o e)

pub lone_listed : (r : Option (Bor (List ℕ))) → lone (listed r) ≡ option_map (λ t. t.now) r
lone_listed None = refl
lone_listed (Some x) = refl

pub found_past : (name : List ℕ) (parts : List (Bor (List ℕ))) (k : ℕ) → length parts ≤ k → found_from name parts k ≡ []
found_past name parts k h = ap (λ ps. filter_map (after_prefix name) (map (λ p. p.now) ps)) (drop_all k parts h)

-- all that was found, when no part is left
pub given_at_end : (name : List ℕ) (parts : List (Bor (List ℕ))) (k : ℕ) (r : Option (Bor (List ℕ))) → length parts ≤ k
    → listed r ++ found_from name parts k ≡ found_from name parts 0 → option_map (λ t. t.now) r ≡ metric_letter name (map (λ p. p.now) parts)
unfolding metric_letter
given_at_end name parts k r h e =
    let all : listed r ≡ found_from name parts 0 = sym (append-nil (listed r)) ∙ (ap (λ xs. listed r ++ xs) (sym (found_past name parts k h)) ∙ e) in
    sym (lone_listed r) ∙ ap lone all

two_are_none : (x y : List ℕ) (rest : List (List ℕ)) → lone (x ∷ y ∷ rest) ≡ None
two_are_none x y rest = refl

-- a second part that begins with the name
pub given_twice : (name : List ℕ) (parts : List (Bor (List ℕ))) (k : ℕ) (d x : Bor (List ℕ)) (v : List ℕ) → k < length parts
    → after_prefix name (get_or parts k d).now ≡ Some v
    → listed (Some x) ++ found_from name parts k ≡ found_from name parts 0 → None ≡ metric_letter name (map (λ p. p.now) parts)
unfolding metric_letter
given_twice name parts k d x v h found e =
    sym (two_are_none x.now v (found_from name parts (k + 1)))
    ∙ (ap (λ xs. lone (x.now ∷ xs)) (sym (found_more name parts k d (Some v) h found)) ∙ ap lone e)

pub given_again : (name : List ℕ) (parts : List (Bor (List ℕ))) (k : ℕ) (d : Bor (List ℕ)) (r : Option (Bor (List ℕ))) (v : List ℕ)
    → k < length parts → Some v ≡ after_prefix name (get_or parts k d).now → true ≡ is_some r
    → listed r ++ found_from name parts k ≡ found_from name parts 0 → None ≡ metric_letter name (map (λ p. p.now) parts)
given_again name parts k d None v h found some e = cc some
given_again name parts k d (Some x) v h found some e = given_twice name parts k d x v h (sym found) e

-- ---- the text after a version

-- nine parts at most tell whether there are eight
eight-of-nine : {A : Type 0} (xs : List A) → (length (take 9 xs) == 8) ≡ (length xs == 8)
eight-of-nine (a ∷ b ∷ c ∷ d ∷ e ∷ f ∷ g ∷ h ∷ i ∷ xs) = sym (ne_eqb (length (a ∷ b ∷ c ∷ d ∷ e ∷ f ∷ g ∷ h ∷ i ∷ xs)) 8 (λ is. absurd (omega (arith, is))))
eight-of-nine (a ∷ b ∷ c ∷ d ∷ e ∷ f ∷ g ∷ h ∷ []) = refl
eight-of-nine (a ∷ b ∷ c ∷ d ∷ e ∷ f ∷ g ∷ []) = refl
eight-of-nine (a ∷ b ∷ c ∷ d ∷ e ∷ f ∷ []) = refl
eight-of-nine (a ∷ b ∷ c ∷ d ∷ e ∷ []) = refl
eight-of-nine (a ∷ b ∷ c ∷ d ∷ []) = refl
eight-of-nine (a ∷ b ∷ c ∷ []) = refl
eight-of-nine (a ∷ b ∷ []) = refl
eight-of-nine (a ∷ []) = refl
eight-of-nine [] = refl

-- the first items of an iterator
pub first_items : {S A B : Type 0} {steps : S → Option A → S → Type 0} {v : A → B} {ys : List B} {s : S} {t : Take S} (n : ℕ)
    → YieldsList steps v s ys → take_source t ≡ s → take_count t ≡ n → YieldsList (take_steps steps) v t (take n ys)
first_items {S} {A} {B} {steps} {v} {ys} n whole source count =
    YieldsList-from_take n (subst (λ x. YieldsList steps v x ys) (sym source) whole) count

-- a number of parts, counted up to nine
pub counted_eight : (text : List ℕ) (n : ℕ) → n ≡ length (take 9 (parts_of text)) → (n == 8) ≡ (length (parts_of text) == 8)
counted_eight text n is = ap (λ k. k == 8) is ∙ eight-of-nine (parts_of text)

-- the metrics of the parts, if there are eight of them
pub base_of_eight : (minor : ℕ) (text : List ℕ) → (length (parts_of text) == 8) ≡ true → base_of minor text ≡ metrics_of minor (parts_of text)
unfolding base_of
base_of_eight minor text e = rw e refl

pub base_of_other : (minor : ℕ) (text : List ℕ) → (length (parts_of text) == 8) ≡ false → base_of minor text ≡ None
unfolding base_of
base_of_other minor text e = rw e refl
