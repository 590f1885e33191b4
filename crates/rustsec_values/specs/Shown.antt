-- How a text of a file is shown on a line: each hidden character is replaced by its Unicode escape.
use Rattle.std.specs.Prelude.{◌||◌, ℕ, Bool, if◌then◌else◌, List, [], ◌∷◌}
use Rattle.std.specs.Char.{is_control}
use Rattle.std.specs.Char.Escape.{escape_unicode}
use Rattle.std.specs.Int.{is_in_range}
use Rattle.std.specs.List.{flat_map, list_any}
use Rattle.std.specs.Str.{chars, encode_utf8_all}

-- from a character to another one
abbrev pub Span : Type 0
Span = ℕ × ℕ

-- the invisible characters that turn the direction of others, join them or end their line
abbrev pub invisible : List Span
invisible =
    (0xAD, 0xAD) ∷ (0x61C, 0x61C) ∷ (0x180E, 0x180E) ∷ (0x200B, 0x200F) ∷ (0x2028, 0x202E) ∷ (0x2060, 0x206F)
    ∷ (0xFEFF, 0xFEFF) ∷ (0xFFF9, 0xFFFB) ∷ (0xE0000, 0xE007F) ∷ []

-- whether a character is hidden: a control character, or an invisible one
abbrev pub is_hidden : ℕ → Bool
is_hidden c = is_control c || list_any (λ (s : Span). is_in_range s.0 s.1 c) invisible

-- the characters that show a character
unfoldable pub shown_char : ℕ → List ℕ
shown_char c = if is_hidden c then escape_unicode c else c ∷ []

-- a text as it is shown
abbrev pub shown : List ℕ → List ℕ
shown text = encode_utf8_all (flat_map shown_char (chars text))
