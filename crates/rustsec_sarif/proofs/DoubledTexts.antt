-- Texts with their braces doubled, character by character.
use Rattle.std.proofs.Common.{◌≡◌, ◌++◌, ◌∙◌, ℕ, List, [], ◌∷◌, ap, arith, length}
use Rattle.std.specs.Char.{encode_utf8}
use Rattle.std.specs.Str.{IsUtf8, chars, encode_utf8_all}
use Rattle.std.proofs.lemmas.Str.{chars-nil, chars_past_char, encodes-append}
use Rattle.std.specs.List.{flat_map}
use Rattle.rustsec_sarif.specs.SarifWords.{doubled, doubled_char}

-- a text from its next character on
pub doubled-step : (bs rest : List ℕ) (c : ℕ) → IsUtf8 bs → bs ≡ encode_utf8 c ++ rest → doubled bs ≡ encode_utf8_all (doubled_char c) ++ doubled rest
doubled-step bs rest c utf8 is =
    ap (λ cs. encode_utf8_all (flat_map doubled_char cs)) (chars_past_char bs rest c utf8 is) ∙ encodes-append (doubled_char c) (flat_map doubled_char (chars rest))

-- a text without a character
pub doubled-nil : doubled [] ≡ []
doubled-nil = ap (λ cs. encode_utf8_all (flat_map doubled_char cs)) chars-nil

pub doubled-empty : (bs : List ℕ) → length bs ≡ 0 → doubled bs ≡ []
doubled-empty [] h = doubled-nil
doubled-empty (b ∷ bs) h = absurd (omega (arith, h))
