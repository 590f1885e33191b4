-- Texts as they are written, character by character.
use Rattle.std.proofs.Common.{◌≡◌, ◌++◌, ◌∙◌, ℕ, List, [], ◌∷◌, ap, arith, length}
use Rattle.std.specs.Char.{encode_utf8}
use Rattle.std.specs.Str.{IsUtf8, chars, encode_utf8_all}
use Rattle.std.proofs.lemmas.Str.{chars-nil, chars_past_char, encodes-append}
use Rattle.std.specs.List.{flat_map}
use Rattle.rustsec_page.specs.Escaped.{escaped, written_char}

-- a text from its next character on
pub escaped-step : (bs rest : List ℕ) (c : ℕ) → IsUtf8 bs → bs ≡ encode_utf8 c ++ rest → escaped bs ≡ encode_utf8_all (written_char c) ++ escaped rest
unfolding escaped
escaped-step bs rest c utf8 is =
    ap (λ cs. encode_utf8_all (flat_map written_char cs)) (chars_past_char bs rest c utf8 is) ∙ encodes-append (written_char c) (flat_map written_char (chars rest))

-- a text without a character
escaped-nil : escaped [] ≡ []
unfolding escaped
escaped-nil = ap (λ cs. encode_utf8_all (flat_map written_char cs)) chars-nil

pub escaped-empty : (bs : List ℕ) → length bs ≡ 0 → escaped bs ≡ []
escaped-empty [] h = escaped-nil
escaped-empty (b ∷ bs) h = absurd (omega (arith, h))
