-- Escaped texts have none of the bytes that begin and end tags and the values of attributes, so those bytes of a page are
-- those of its own markup.
use Rattle.std.proofs.Common.{◌≡◌, ℕ, suc, ◌<◌, ◌≤◌, ◌+◌, ◌/◌, ◌%◌, ◌++◌, ◌∙◌, ◌||◌, ◌==◌, Bool, true, false, cond, if◌then◌else◌, nat_lt, List, [], ◌∷◌, ap, ap₂, arith, codes, length, get_or, refl, sym, append-nil, inl, inr}
use Rattle.std.proofs.lemmas.Bool.{cases_lt, false≢true, ne_eqb, or_from}
use Rattle.std.proofs.lemmas.List.Elements.{filter-append}
use Rattle.std.proofs.lemmas.Str.{encode_ascii, encodes-append, inside_one}
use Rattle.std.specs.Char.{digit_char}
use Rattle.std.specs.Char.Escape.{escape_unicode, hex_digit_at}
use Rattle.std.specs.List.{filter, flat_map, list_any}
use Rattle.std.specs.Str.{chars}
use lib.Utf8.{encode, encodes}
use Rattle.rustsec_page.specs.Escaped.{escaped, is_mark, is_veiled, referred, written_char}
use Rattle.rustsec_page.specs.Pieces.{Piece, bytes_of, card, content, drawing, frame, item, markup_of, marks, section, style, text_of}

-- ---- bytes

-- a number that is not one of the four
other_than : (x : ℕ) → (x ≡ 60 → ⊥) → (x ≡ 62 → ⊥) → (x ≡ 34 → ⊥) → (x ≡ 39 → ⊥) → is_mark x ≡ false
other_than x l g q s =
    or_from (x == 60) _ (ne_eqb x 60 l) (or_from (x == 62) _ (ne_eqb x 62 g)
    (or_from (x == 34) (x == 39) (ne_eqb x 34 q) (ne_eqb x 39 s)))

high_one : (x : ℕ) → 64 ≤ x → is_mark x ≡ false
high_one x h = other_than x (λ e. omega (arith, e, h)) (λ e. omega (arith, e, h)) (λ e. omega (arith, e, h)) (λ e. omega (arith, e, h))

skip : (x : ℕ) (xs : List ℕ) → is_mark x ≡ false → filter is_mark xs ≡ [] → filter is_mark (x ∷ xs) ≡ []
skip x xs e h = rw e h

high : (xs : List ℕ) → ((k : ℕ) → k < length xs → 128 ≤ get_or xs k 0) → filter is_mark xs ≡ []
high [] h = refl
high (x ∷ xs) h =
    let first : 128 ≤ x = h 0 (omega arith) in
    skip x xs (high_one x (omega (arith, first))) (high xs (λ k below. h (suc k) (omega (arith, below))))

-- ---- characters

one_char : (c : ℕ) → is_mark c ≡ false → filter is_mark (encode c) ≡ []
one_char c e = elim (cases_lt c 128) [
  | inl small ↦ rw (encode_ascii c small) (skip c [] e refl)
  | inr big ↦
      high (encode c) (λ k below. elim (cases_lt (get_or (encode c) k 0) 128) [
        | inl low ↦ absurd (omega (arith, big, low, inside_one c [] (encode c) k (sym (append-nil _)) below low))
        | inr h ↦ h
      ])
]

-- whether the bytes of characters have no marks
abbrev Plain : List ℕ → Type 0
Plain cs = filter is_mark (encodes cs) ≡ []

plain_append : (xs ys : List ℕ) → Plain xs → Plain ys → Plain (xs ++ ys)
plain_append xs ys h k =
    ap (filter is_mark) (encodes-append xs ys) ∙ filter-append is_mark (encodes xs) (encodes ys)
    ∙ ap₂ (λ (a b : List ℕ). a ++ b) h k

plain_cons : (c : ℕ) (cs : List ℕ) → is_mark c ≡ false → Plain cs → Plain (c ∷ cs)
plain_cons c cs e h =
    filter-append is_mark (encode c) (encodes cs) ∙ ap₂ (λ (a b : List ℕ). a ++ b) (one_char c e) h

first_false : (a b : Bool) → (a || b) ≡ false → a ≡ false
first_false false b e = refl
first_false true b e = e

second_false : (a b : Bool) → (a || b) ≡ false → b ≡ false
second_false false b e = e
second_false true b e = absurd (false≢true (sym e))

plain : (cs : List ℕ) → list_any is_mark cs ≡ false → Plain cs
plain [] e = refl
plain (c ∷ cs) e = plain_cons c cs (first_false _ _ e) (plain cs (second_false (is_mark c) _ e))

-- ---- escapes

digit : (d : ℕ) → is_mark (digit_char d) ≡ false
digit d = elim (cases_lt d 10) [
  | inl low ↦
      rw (low_test d low) (other_than (48 + d) (λ e. omega (arith, e, low)) (λ e. omega (arith, e, low)) (λ e. omega (arith, e, low)) (λ e. omega (arith, e, low)))
  | inr big ↦ rw (big_test d big) (high_one (87 + d) (omega arith))
]
  where
    low_test : (d : ℕ) → d < 10 → nat_lt d 10 ≡ true
    low_test d h = grind arith

    big_test : (d : ℕ) → 10 ≤ d → nat_lt d 10 ≡ false
    big_test d h = grind arith

either : (b : Bool) (xs ys : List ℕ) → Plain xs → Plain ys → Plain (cond b xs ys)
either true xs ys h k = h
either false xs ys h k = k

-- the ends of escapes: hex digits and a brace
abbrev end1 : ℕ → List ℕ
end1 c = hex_digit_at 1 c ∷ 125 ∷ []

abbrev end2 : ℕ → List ℕ
end2 c = hex_digit_at 0x10 c ∷ end1 c

abbrev end3 : ℕ → List ℕ
end3 c = hex_digit_at 0x100 c ∷ end2 c

abbrev end4 : ℕ → List ℕ
end4 c = hex_digit_at 0x1000 c ∷ end3 c

abbrev end5 : ℕ → List ℕ
end5 c = hex_digit_at 0x1_0000 c ∷ end4 c

abbrev end6 : ℕ → List ℕ
end6 c = hex_digit_at 0x10_0000 c ∷ end5 c

hex : (p c : ℕ) (cs : List ℕ) → Plain cs → Plain (hex_digit_at p c ∷ cs)
hex p c cs h = plain_cons (hex_digit_at p c) cs (digit (c / p % 16)) h

plain1 : (c : ℕ) → Plain (end1 c)
plain1 c = hex 1 c (125 ∷ []) (plain (125 ∷ []) refl)

plain2 : (c : ℕ) → Plain (end2 c)
plain2 c = hex 0x10 c (end1 c) (plain1 c)

plain3 : (c : ℕ) → Plain (end3 c)
plain3 c = hex 0x100 c (end2 c) (plain2 c)

plain4 : (c : ℕ) → Plain (end4 c)
plain4 c = hex 0x1000 c (end3 c) (plain3 c)

plain5 : (c : ℕ) → Plain (end5 c)
plain5 c = hex 0x1_0000 c (end4 c) (plain4 c)

plain6 : (c : ℕ) → Plain (end6 c)
plain6 c = hex 0x10_0000 c (end5 c) (plain5 c)

-- an escape with such an end
abbrev begun : List ℕ → List ℕ
begun cs = 92 ∷ 117 ∷ 123 ∷ cs

start : (cs : List ℕ) → Plain cs → Plain (begun cs)
start cs h = plain_cons 92 (117 ∷ 123 ∷ cs) refl (plain_cons 117 (123 ∷ cs) refl (plain_cons 123 cs refl h))

abbrev from5 : ℕ → List ℕ
from5 c = cond (nat_lt c 0x10_0000) (begun (end5 c)) (begun (end6 c))

abbrev from4 : ℕ → List ℕ
from4 c = cond (nat_lt c 0x1_0000) (begun (end4 c)) (from5 c)

abbrev from3 : ℕ → List ℕ
from3 c = cond (nat_lt c 0x1000) (begun (end3 c)) (from4 c)

abbrev from2 : ℕ → List ℕ
from2 c = cond (nat_lt c 0x100) (begun (end2 c)) (from3 c)

long : (c : ℕ) → Plain (from4 c)
long c =
    either (nat_lt c 0x1_0000) (begun (end4 c)) (from5 c) (start (end4 c) (plain4 c))
    (either (nat_lt c 0x10_0000) (begun (end5 c)) (begun (end6 c)) (start (end5 c) (plain5 c)) (start (end6 c) (plain6 c)))

short : (c : ℕ) → Plain (from2 c)
short c =
    either (nat_lt c 0x100) (begun (end2 c)) (from3 c) (start (end2 c) (plain2 c))
    (either (nat_lt c 0x1000) (begun (end3 c)) (from4 c) (start (end3 c) (plain3 c)) (long c))

unicode : (c : ℕ) → Plain (escape_unicode c)
unicode c = either (nat_lt c 0x10) (begun (end1 c)) (from2 c) (start (end1 c) (plain1 c)) (short c)

-- ---- references

chosen : (c : ℕ) (a l g q s : Bool) → is_mark c ≡ (l || (g || (q || s)))
    → Plain (if a then codes "&amp;" else if l then codes "&lt;" else if g then codes "&gt;" else if q then codes "&quot;" else if s then codes "&#39;" else c ∷ [])
chosen c true l g q s e = plain (codes "&amp;") refl
chosen c false true g q s e = plain (codes "&lt;") refl
chosen c false false true q s e = plain (codes "&gt;") refl
chosen c false false false true s e = plain (codes "&quot;") refl
chosen c false false false false true e = plain (codes "&#39;") refl
chosen c false false false false false e = plain_cons c [] e refl

reference : (c : ℕ) → Plain (referred c)
reference c = chosen c (c == 38) (c == 60) (c == 62) (c == 34) (c == 39) refl

-- ---- texts

one_written : (c : ℕ) → Plain (written_char c)
unfolding written_char
one_written c = either (is_veiled c) (escape_unicode c) (referred c) (unicode c) (reference c)

all_written : (cs : List ℕ) → Plain (flat_map written_char cs)
all_written [] = refl
all_written (c ∷ cs) = plain_append (written_char c) (flat_map written_char cs) (one_written c) (all_written cs)

pub no_marks : (t : List ℕ) → filter is_mark (escaped t) ≡ []
unfolding escaped
no_marks t = all_written (chars t)

-- ---- pieces

one_piece : (p : Piece) → filter is_mark (bytes_of p) ≡ filter is_mark (markup_of p)
unfolding bytes_of
one_piece (style x) = refl
one_piece (frame x) = refl
one_piece (section x) = refl
one_piece (card x) = refl
one_piece (item x) = refl
one_piece (drawing x) = refl
one_piece (content t) = no_marks t

pub marks_of_markup : (ps : List Piece) → filter is_mark (text_of ps) ≡ marks ps
marks_of_markup [] = refl
marks_of_markup (p ∷ ps) =
    filter-append is_mark (bytes_of p) (text_of ps) ∙ ap₂ (λ (a b : List ℕ). a ++ b) (one_piece p) (marks_of_markup ps)
    ∙ sym (filter-append is_mark (markup_of p) (flat_map markup_of ps))
