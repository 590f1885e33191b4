-- Texts as they are escaped, character by character.
use Rattle.std.proofs.Common.{◌≡◌, ◌++◌, ℕ, List, [], ◌∷◌, ap, arith, flat_map, length}
use Rattle.std.specs.Char.{encode_utf8}
use Rattle.std.specs.Str.{IsUtf8, chars}
use Rattle.std.proofs.lemmas.Str.{chars-nil, chars_past_char}

-- a text from its next character on
pub next-char : (f : ℕ → List ℕ) (bs rest : List ℕ) (c : ℕ) → IsUtf8 bs → bs ≡ encode_utf8 c ++ rest
    → flat_map f (chars bs) ≡ f c ++ flat_map f (chars rest)
next-char f bs rest c utf8 is = ap (flat_map f) (chars_past_char bs rest c utf8 is)

-- a text without a character
pub no-char : (f : ℕ → List ℕ) (bs : List ℕ) → length bs ≡ 0 → flat_map f (chars bs) ≡ []
no-char f [] h = ap (flat_map f) chars-nil
no-char f (b ∷ bs) h = absurd (omega (arith, h))
