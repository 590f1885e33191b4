-- How a text of a file is written on the page (HTML Living Standard, sections 13.1.2.4 and 13.1.4): the five characters
-- that mean something in markup are written as character references, and a hidden character as its Unicode escape.
use Rattle.std.specs.Prelude.{◌≡◌, ◌==◌, ◌||◌, ◌&&◌, not, ℕ, Bool, if◌then◌else◌, List, [], ◌∷◌, codes}
use Rattle.std.specs.Char.Escape.{escape_unicode}
use Rattle.std.specs.List.{filter, flat_map}
use Rattle.std.specs.Str.{chars, encode_utf8_all}
use Rattle.rustsec_values.specs.Shown.{is_hidden}

-- the white space of lines: a tab, a line feed, and a carriage return
abbrev pub is_of_lines : ℕ → Bool
is_of_lines c = c == 9 || (c == 10 || c == 13)

-- whether a character is written as its escape: it is hidden, and no white space of lines
abbrev pub is_veiled : ℕ → Bool
is_veiled c = is_hidden c && not (is_of_lines c)

-- a character as its reference (section 13.5), or as itself
abbrev pub referred : ℕ → List ℕ
referred c =
    if c == 38 then codes "&amp;" else if c == 60 then codes "&lt;" else if c == 62 then codes "&gt;"
    else if c == 34 then codes "&quot;" else if c == 39 then codes "&#39;" else c ∷ []

-- the characters that write a character
unfoldable pub written_char : ℕ → List ℕ
written_char c = if is_veiled c then escape_unicode c else referred c

-- a text as it is written
unfoldable pub escaped : List ℕ → List ℕ
escaped text = encode_utf8_all (flat_map written_char (chars text))

-- the bytes that begin and end tags and the values of attributes: `<`, `>`, `"` and `'`
abbrev pub is_mark : ℕ → Bool
is_mark b = b == 60 || (b == 62 || (b == 34 || b == 39))

-- a text without such bytes
abbrev pub HasNoMarks : List ℕ → Type 0
HasNoMarks text = filter is_mark text ≡ []
