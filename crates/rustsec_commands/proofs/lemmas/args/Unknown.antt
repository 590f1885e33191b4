-- Words that do not name a command, by their number.
use Rattle.std.proofs.Common.{◌≡◌, ◌≢◌, ◌<◌, ◌≤◌, ℕ, List, [], ◌∷◌, Bor, arith, codes, false, get_or, inl, inr, length, map, nat_eq, refl}
use Rattle.std.proofs.lemmas.Bool.{cases_Bool}
use Rattle.std.specs.Cmp.Lexicographic.{bytes_decides, pointwise}
use Rattle.rustsec_commands.specs.args.Words.{command_of, none}

differs : (a b : List ℕ) → a ≢ b → pointwise nat_eq a b ≡ false
differs a b other = elim (cases_Bool (pointwise nat_eq a b)) [
  | inl same ↦ absurd (other ((bytes_decides a b).0 same))
  | inr differ ↦ differ
]

-- the first of some words
abbrev pub first : List (Bor (List ℕ)) → Bor (List ℕ) → List ℕ
first words d = (get_or words 0 d).now

pub no-word : (words : List (Bor (List ℕ))) → length words < 1 → none ≡ command_of (map (λ w. w.now) words)
no-word [] low = refl
no-word (x ∷ more) low = absurd (omega (arith, low))

pub one-word : (words : List (Bor (List ℕ))) (d : Bor (List ℕ)) → length words < 2 → 1 ≤ length words
    → first words d ≢ codes "affected" → first words d ≢ codes "ranges" → none ≡ command_of (map (λ w. w.now) words)
one-word [] d low high a b = refl
one-word (x ∷ []) d low high a b = rw (differs x.now (codes "affected") a, differs x.now (codes "ranges") b) refl
one-word (x ∷ y ∷ more) d low high a b = absurd (omega (arith, low))

pub two-words : (words : List (Bor (List ℕ))) (d : Bor (List ℕ)) → length words < 3 → 2 ≤ length words
    → first words d ≢ codes "lint" → none ≡ command_of (map (λ w. w.now) words)
two-words [] d low high a = refl
two-words (x ∷ []) d low high a = absurd (omega (arith, high))
two-words (x ∷ y ∷ []) d low high a = rw (differs x.now (codes "lint") a) refl
two-words (x ∷ y ∷ z ∷ more) d low high a = absurd (omega (arith, low))

pub three-words : (words : List (Bor (List ℕ))) (d : Bor (List ℕ)) → length words < 4 → 3 ≤ length words
    → first words d ≢ codes "osv" → first words d ≢ codes "report" → first words d ≢ codes "audit" → none ≡ command_of (map (λ w. w.now) words)
three-words [] d low high a b e = refl
three-words (x ∷ []) d low high a b e = absurd (omega (arith, high))
three-words (x ∷ y ∷ []) d low high a b e = absurd (omega (arith, high))
three-words (x ∷ y ∷ z ∷ []) d low high a b e =
    rw (differs x.now (codes "osv") a, differs x.now (codes "report") b, differs x.now (codes "audit") e) refl
three-words (x ∷ y ∷ z ∷ u ∷ more) d low high a b e = absurd (omega (arith, low))

pub more-words : (words : List (Bor (List ℕ))) (d : Bor (List ℕ)) → 4 ≤ length words → first words d ≢ codes "audit"
    → none ≡ command_of (map (λ w. w.now) words)
more-words [] d high a = refl
more-words (x ∷ []) d high a = absurd (omega (arith, high))
more-words (x ∷ y ∷ []) d high a = absurd (omega (arith, high))
more-words (x ∷ y ∷ z ∷ []) d high a = absurd (omega (arith, high))
more-words (x ∷ y ∷ z ∷ u ∷ more) d high a = rw (differs x.now (codes "audit") a) refl
