-- How a list of lint errors grows.
use Rattle.std.proofs.Common.{◌≡◌, ◌≢◌, ◌∙◌, ℕ, ◌+◌, ◌<◌, List, ◌++◌, Some, false, length, get_or, take, refl, ap, inl, inr}
use Rattle.std.proofs.lemmas.Bool.{cases_Bool}
use Rattle.std.specs.Cmp.Lexicographic.{bytes_decides}
use Rattle.std.specs.Str.{bytes_eq}
use Rattle.std.specs.List.{flat_map}
use Rattle.std.proofs.lemmas.List.{append_assoc, flat_map_more, take_more}
use Rattle.toml.specs.Data.{Data, string, integer, float, boolean, datetime, array, table, as_str}

-- the rows of one more element, in a loop
pub rows-more : {X A : Type 0} (f : X → List A) (before after rows : List A) (xs : List X) (i : ℕ) (x : X) → i < length xs → x ≡ get_or xs i x
    → rows ≡ before ++ flat_map f (take i xs) → after ≡ rows ++ f x → after ≡ before ++ flat_map f (take (i + 1) xs)
rows-more f before after rows xs i x l at so_far grown =
    grown ∙ ap (λ r. r ++ f x) so_far ∙ flat_map_more f before (take i xs) x ∙ rw (take_more xs i x l, ← at) refl

-- three appends
pub three : {A : Type 0} (old one two all a b c : List A) → one ≡ old ++ a → two ≡ one ++ b → all ≡ two ++ c → all ≡ old ++ (a ++ (b ++ c))
three old one two all a b c h k l =
    l ∙ ap (λ r. r ++ c) (k ∙ ap (λ r. r ++ b) h) ∙ append_assoc (old ++ a) b c ∙ append_assoc old a (b ++ c)

-- a value that is a string
pub is-string : (d : Data) (text : List ℕ) → as_str d ≡ Some text → d ≡ string text
is-string (string s) text h = ap string (cc h)
is-string (integer z) text h = cc h
is-string (float x) text h = cc h
is-string (boolean b) text h = cc h
is-string (datetime t) text h = cc h
is-string (array ds) text h = cc h
is-string (table ms) text h = cc h

-- texts that differ
pub not-same : (a b : List ℕ) → a ≢ b → bytes_eq a b ≡ false
not-same a b h = elim (cases_Bool (bytes_eq a b)) [
  | inl is_same ↦ absurd (h ((bytes_decides a b).0 is_same))
  | inr differs ↦ differs
]
