-- Names in lower case are ASCII.
use Rattle.std.proofs.Common.{◌≡◌, ◌<◌, ◌+◌, ◌++◌, ℕ, zero, suc, Bool, true, false, List, [], ◌∷◌, arith, drop, get_or, length, refl, subst, take, Some}
use Rattle.std.specs.Char.{to_ascii_lowercase}
use Rattle.std.specs.Cmp.{first_so, second_so}
use Rattle.std.specs.List.{list_all}
use Rattle.std.specs.Str.{IsAscii}
use Rattle.std.proofs.lemmas.Bool.Decides.{nat_tests}
use Rattle.std.proofs.lemmas.List.{get_or-drop, map-append, take_more}
use Rattle.std.proofs.lemmas.Bool.{and_right}
use Rattle.rustsec_values.specs.Reading.{only_if}
use Rattle.rustsec_registry.specs.index.IndexPath.{is_name_byte, lower_case}

-- a byte of a name, in lower case
pub name-byte-low : (b : ℕ) → is_name_byte b ≡ true → to_ascii_lowercase b < 128
name-byte-low b h = grind (arith, nat_tests)

pub name-byte-ascii : (b : ℕ) → is_name_byte b ≡ true → b < 128
name-byte-ascii b h = grind (arith, nat_tests)

pub lower-ascii : (name : List ℕ) → list_all is_name_byte name ≡ true → IsAscii (lower_case name)
lower-ascii [] h i = omega arith
lower-ascii (b ∷ bs) h zero = name-byte-low b (first_so (is_name_byte b) _ h)
lower-ascii (b ∷ bs) h (suc i) = lower-ascii bs (second_so (is_name_byte b) _ h) i

-- ---- names, byte by byte

pub all-stops : (p : ℕ → Bool) (xs : List ℕ) (i d : ℕ) → i < length xs → p (get_or xs i d) ≡ false → list_all p xs ≡ false
all-stops p [] i d l h = absurd (omega arith)
all-stops p (x ∷ xs) zero d l h = rw h refl
all-stops p (x ∷ xs) (suc i) d l h = and_right (p x) (list_all p xs) (all-stops p xs i d (omega arith) h)

pub all-push : (p : ℕ → Bool) (xs : List ℕ) (x : ℕ) → list_all p xs ≡ true → p x ≡ true → list_all p (xs ++ x ∷ []) ≡ true
all-push p [] x h e = rw e refl
all-push p (y ∷ ys) x h e = rw (first_so (p y) (list_all p ys) h) (all-push p ys x (second_so (p y) (list_all p ys) h) e)

pub all-more : (p : ℕ → Bool) (xs : List ℕ) (i d : ℕ) → i < length xs → list_all p (take i xs) ≡ true → p (get_or xs i d) ≡ true
    → list_all p (take (i + 1) xs) ≡ true
all-more p xs i d l h e = rw (take_more xs i d l) (all-push p (take i xs) (get_or xs i d) h e)

pub lower-more : (xs lower : List ℕ) (i d : ℕ) → i < length xs → lower ≡ lower_case (take i xs)
    → lower ++ to_ascii_lowercase (get_or xs i d) ∷ [] ≡ lower_case (take (i + 1) xs)
lower-more xs lower i d l h = rw (take_more xs i d l, map-append, h) refl

-- ---- a part of an ASCII text

pub drop-ascii : (xs : List ℕ) (n : ℕ) → IsAscii xs → IsAscii (drop n xs)
drop-ascii xs n h i = rw get_or-drop (h (n + i))

-- ---- a name that was given in lower case

lower-from : (t : Bool) (name lower : List ℕ) → list_all is_name_byte name ≡ t → only_if t (Some (lower_case name)) ≡ Some lower → IsAscii lower
lower-from true name lower named h = let same : lower_case name ≡ lower = cc h in subst IsAscii same (lower-ascii name named)
lower-from false name lower named h = cc h

pub lower-given : (name lower : List ℕ) → only_if (list_all is_name_byte name) (Some (lower_case name)) ≡ Some lower → IsAscii lower
lower-given name lower h = lower-from (list_all is_name_byte name) name lower refl h
