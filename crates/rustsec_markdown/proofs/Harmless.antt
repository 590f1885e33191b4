-- No byte of an escaped text starts structure.
use Rattle.std.proofs.Common.{◌≡◌, ◌∙◌, ◌||◌, ◌==◌, ◌+◌, ◌/◌, ◌%◌, ◌<◌, ◌≤◌, ℕ, Bool, true, false, List, [], ◌∷◌, ◌++◌, refl, arith, flat_map, nat_le, nat_lt, zero, suc, le-leb, lt-ltb}
use Rattle.std.specs.Prelude.{if◌then◌else◌, codes}
use Rattle.std.specs.Char.{encode_utf8, is_ascii_alphanumeric}
use Rattle.std.specs.Char.Escape.{escape_unicode}
use Rattle.std.specs.Fmt.{decimal, digit_glyph, digits, digits_onto}
use Rattle.std.specs.List.{list_all}
use Rattle.std.specs.Str.{chars}
use Rattle.std.proofs.lemmas.List.Folds.{list_all-append}
use Rattle.std.proofs.lemmas.Bool.{and_from, or_left}
use Rattle.rustsec_values.specs.Shown.{is_hidden}
use Rattle.rustsec_markdown.specs.Escaped.{escaped, escaped_char, is_harmless, is_linking, is_plain, joiner, parted, reference, referred}

-- ---- truth tables

third : (a b c d : Bool) → c ≡ true → ((a || (b || c)) || d) ≡ true
third true b c d h = refl
third false true c d h = refl
third false false c d h = rw h refl

-- ---- lists

joined : (xs ys : List ℕ) → list_all is_harmless xs ≡ true → list_all is_harmless ys ≡ true → list_all is_harmless (xs ++ ys) ≡ true
joined xs ys h k = list_all-append is_harmless xs ys ∙ and_from (list_all is_harmless xs) (list_all is_harmless ys) h k

each : (f : ℕ → List ℕ) → ((c : ℕ) → list_all is_harmless (f c) ≡ true) → (cs : List ℕ) → list_all is_harmless (flat_map f cs) ≡ true
each f h [] = refl
each f h (c ∷ cs) = joined (f c) (flat_map f cs) (h c) (each f h cs)

chosen : (b : Bool) (xs ys : List ℕ) → (b ≡ true → list_all is_harmless xs ≡ true) → (b ≡ false → list_all is_harmless ys ≡ true)
    → list_all is_harmless (if b then xs else ys) ≡ true
chosen true xs ys h k = h refl
chosen false xs ys h k = k refl

more : (b : ℕ) (bs : List ℕ) → is_harmless b ≡ true → list_all is_harmless bs ≡ true → list_all is_harmless (b ∷ bs) ≡ true
more b bs h k = and_from (is_harmless b) (list_all is_harmless bs) h k

-- ---- bytes

plain : (c : ℕ) → is_plain c ≡ true → is_harmless c ≡ true
plain c h = or_left (is_plain c) (c == 35 || (c == 38 || c == 59)) h

high : (b : ℕ) → 128 ≤ b → is_harmless b ≡ true
high b h = third (is_ascii_alphanumeric b) (b == 32) (nat_le 128 b) (b == 35 || (b == 38 || b == 59)) (le-leb 128 b h)

digit : (d : ℕ) → d < 10 → is_harmless (digit_glyph false d) ≡ true
digit d h =
    let from : nat_le 48 (48 + d) ≡ true = le-leb 48 (48 + d) (omega arith) in
    let to : nat_le (48 + d) 57 ≡ true = le-leb (48 + d) 57 (omega arith) in
    rw (lt-ltb d 10 h, from, to) refl

-- ---- characters

onto : (k n : ℕ) (acc : List ℕ) → list_all is_harmless acc ≡ true → list_all is_harmless (digits_onto k 10 false n acc) ≡ true
onto zero n acc h = h
onto (suc k) n acc h =
    let next = digit_glyph false (n % 10) ∷ acc in
    let held : list_all is_harmless next ≡ true = more (digit_glyph false (n % 10)) acc (digit (n % 10) (omega arith)) h in
    chosen (n / 10 == 0) next (digits_onto k 10 false (n / 10) next) (λ e. held) (λ e. onto k (n / 10) next held)

decimal-harmless : (n : ℕ) → list_all is_harmless (decimal n) ≡ true
unfolding digits
decimal-harmless n = onto 64 n [] refl

reference-harmless : (c : ℕ) → list_all is_harmless (reference c) ≡ true
reference-harmless c = joined (codes "&#") (decimal c ++ codes ";") refl (joined (decimal c) (codes ";") (decimal-harmless c) refl)

-- a character that is not ASCII has no byte that is
after-first : (c : ℕ) → is_harmless (128 + c % 64) ≡ true
after-first c = high (128 + c % 64) (omega arith)

last-byte : (c : ℕ) → list_all is_harmless ((128 + c % 64) ∷ []) ≡ true
last-byte c = more (128 + c % 64) [] (after-first c) refl

last-two : (c : ℕ) → list_all is_harmless ((128 + c / 64 % 64) ∷ (128 + c % 64) ∷ []) ≡ true
last-two c = more (128 + c / 64 % 64) ((128 + c % 64) ∷ []) (after-first (c / 64)) (last-byte c)

two-bytes : (c : ℕ) → list_all is_harmless ((192 + c / 64) ∷ (128 + c % 64) ∷ []) ≡ true
two-bytes c = more (192 + c / 64) ((128 + c % 64) ∷ []) (high (192 + c / 64) (omega arith)) (last-byte c)

three-bytes : (c : ℕ) → list_all is_harmless ((224 + c / 4096) ∷ (128 + c / 64 % 64) ∷ (128 + c % 64) ∷ []) ≡ true
three-bytes c = more (224 + c / 4096) ((128 + c / 64 % 64) ∷ (128 + c % 64) ∷ []) (high (224 + c / 4096) (omega arith)) (last-two c)

four-bytes : (c : ℕ) → list_all is_harmless ((240 + c / 262144) ∷ (128 + c / 4096 % 64) ∷ (128 + c / 64 % 64) ∷ (128 + c % 64) ∷ []) ≡ true
four-bytes c =
    let three = (128 + c / 4096 % 64) ∷ (128 + c / 64 % 64) ∷ (128 + c % 64) ∷ [] in
    let held : list_all is_harmless three ≡ true = more (128 + c / 4096 % 64) ((128 + c / 64 % 64) ∷ (128 + c % 64) ∷ []) (after-first (c / 4096)) (last-two c) in
    more (240 + c / 262144) three (high (240 + c / 262144) (omega arith)) held

encoded-harmless : (c : ℕ) → is_plain c ≡ true → list_all is_harmless (encode_utf8 c) ≡ true
unfolding encode_utf8
encoded-harmless c h =
    let two = (192 + c / 64) ∷ (128 + c % 64) ∷ [] in
    let three = (224 + c / 4096) ∷ (128 + c / 64 % 64) ∷ (128 + c % 64) ∷ [] in
    let four = (240 + c / 262144) ∷ (128 + c / 4096 % 64) ∷ (128 + c / 64 % 64) ∷ (128 + c % 64) ∷ [] in
    let many = if nat_lt c 65536 then three else four in
    chosen (nat_lt c 128) (c ∷ []) (if nat_lt c 2048 then two else many) (λ e. more c [] (plain c h) refl)
    (λ e. chosen (nat_lt c 2048) two many (λ f. two-bytes c) (λ f. chosen (nat_lt c 65536) three four (λ g. three-bytes c) (λ g. four-bytes c)))

referred-harmless : (c : ℕ) → list_all is_harmless (referred c) ≡ true
unfolding referred
referred-harmless c = chosen (is_plain c) (encode_utf8 c) (reference c) (encoded-harmless c) (λ e. reference-harmless c)

parted-harmless : (c : ℕ) → list_all is_harmless (parted c) ≡ true
unfolding parted
parted-harmless c =
    chosen (is_linking c) (joiner ++ (reference c ++ joiner)) (referred c)
    (λ e. joined joiner (reference c ++ joiner) refl (joined (reference c) joiner (reference-harmless c) refl))
    (λ e. referred-harmless c)

-- ---- texts

char-harmless : (c : ℕ) → list_all is_harmless (escaped_char c) ≡ true
unfolding escaped_char
char-harmless c =
    chosen (is_hidden c) (flat_map parted (escape_unicode c)) (parted c) (λ e. each parted parted-harmless (escape_unicode c)) (λ e. parted-harmless c)

pub escaped-harmless : (text : List ℕ) → list_all is_harmless (escaped text) ≡ true
escaped-harmless text = each escaped_char char-harmless (chars text)
