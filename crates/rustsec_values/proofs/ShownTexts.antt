-- Texts as they are shown, character by character.
use Rattle.std.proofs.Common.{◌≡◌, ◌≤◌, ◌<◌, ◌++◌, ◌∙◌, ◌+◌, ℕ, List, [], ◌∷◌, ap, arith, length, length-append}
use Rattle.std.specs.Char.{encode_utf8}
use Rattle.std.specs.Str.{IsUtf8, chars, encode_utf8_all}
use Rattle.std.proofs.lemmas.Str.{chars-nil, chars_past_char, encodes-append, len_utf8_bounds, length-encode}
use Rattle.std.specs.List.{flat_map}
use Rattle.rustsec_values.specs.Shown.{shown, shown_char}

-- a text from its next character on
pub shown-step : (bs rest : List ℕ) (c : ℕ) → IsUtf8 bs → bs ≡ encode_utf8 c ++ rest → shown bs ≡ encode_utf8_all (shown_char c) ++ shown rest
shown-step bs rest c utf8 is =
    ap (λ cs. encode_utf8_all (flat_map shown_char cs)) (chars_past_char bs rest c utf8 is) ∙ encodes-append (shown_char c) (flat_map shown_char (chars rest))

-- a text without a character
pub shown-nil : shown [] ≡ []
shown-nil = ap (λ cs. encode_utf8_all (flat_map shown_char cs)) chars-nil

pub shown-empty : (bs : List ℕ) → length bs ≡ 0 → shown bs ≡ []
shown-empty [] h = shown-nil
shown-empty (b ∷ bs) h = absurd (omega (arith, h))

-- the text after its next character is no longer than a bound on the text
pub rest-shorter : (bs rest : List ℕ) (c n : ℕ) → bs ≡ encode_utf8 c ++ rest → length bs ≤ n → length rest ≤ n
rest-shorter bs rest c n is h =
    let long : length bs ≡ length (encode_utf8 c) + length rest = ap length is ∙ length-append (encode_utf8 c) rest in
    omega (arith, long, h)

-- a bound on a text with a next character is not zero
pub char-left : (bs rest : List ℕ) (c n : ℕ) → bs ≡ encode_utf8 c ++ rest → length bs ≤ n → 0 < n
char-left bs rest c n is h =
    let long : length bs ≡ length (encode_utf8 c) + length rest = ap length is ∙ length-append (encode_utf8 c) rest in
    let wide = length-encode c in
    let some = (len_utf8_bounds c).0 in
    omega (arith, long, wide, some, h)
