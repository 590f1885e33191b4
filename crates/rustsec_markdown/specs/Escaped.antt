-- How a text of a file is written in GitHub Flavored Markdown (GFM), so that it is read as text and starts nothing.
--
-- A numeric character reference means its character and starts no structure (GFM, section 6.2). That is not enough
-- for links: GitHub looks for mentions, references to issues and addresses also in the text after it decoded the
-- references. So each text is inside an element `code`, where GitHub makes no mention, reference or emoji; and each
-- character that an autolink needs (GFM, section 6.9) is between two word joiners (U+2060), which have no width.
use Rattle.std.specs.Prelude.{◌++◌, ◌==◌, ◌||◌, ℕ, Bool, if◌then◌else◌, List, codes, nat_le}
use Rattle.std.specs.Char.{encode_utf8, is_ascii_alphanumeric}
use Rattle.std.specs.Char.Escape.{escape_unicode}
use Rattle.std.specs.Fmt.{decimal}
use Rattle.std.specs.List.{flat_map}
use Rattle.std.specs.Str.{chars}
use Rattle.semver.specs.Identifiers.{parts_text}
use Rattle.semver.specs.Parse.{Parts}
use Rattle.rustsec_values.specs.Shown.{is_hidden}

-- ---- characters

-- a numeric character reference (GFM, section 6.2)
abbrev pub reference : ℕ → List ℕ
reference c = codes "&#" ++ (decimal c ++ codes ";")

-- that of a word joiner
abbrev pub joiner : List ℕ
joiner = codes "&#8288;"

-- whether a character is written as itself: an ASCII letter, a digit, a space, or a character that is not ASCII
abbrev pub is_plain : ℕ → Bool
is_plain c = is_ascii_alphanumeric c || (c == 32 || nat_le 128 c)

-- whether a mention, a reference to an issue, an emoji or an autolink needs the character: `#`, `.`, `:` or `@`
abbrev pub is_linking : ℕ → Bool
is_linking c = c == 35 || (c == 46 || (c == 58 || c == 64))

-- a character as itself or as a reference
unfoldable pub referred : ℕ → List ℕ
referred c = if is_plain c then encode_utf8 c else reference c

-- the same, between two word joiners if it could link
unfoldable pub parted : ℕ → List ℕ
parted c = if is_linking c then joiner ++ (reference c ++ joiner) else referred c

-- ---- texts

-- a character of a text; one that is hidden, as a line feed, by its Unicode escape
unfoldable pub escaped_char : ℕ → List ℕ
escaped_char c = if is_hidden c then flat_map parted (escape_unicode c) else parted c

-- a text of a file
abbrev pub escaped : List ℕ → List ℕ
escaped text = flat_map escaped_char (chars text)

-- a version, without word joiners, so that it can be copied; it begins with a digit and has no space, so nothing links
-- in it
unfoldable pub escaped_version : Parts → List ℕ
escaped_version v = flat_map referred (chars (parts_text v))

-- ---- what no escaped text has

-- whether a byte is that of an ASCII letter, a digit, a space or a character that is not ASCII, or one of `&`, `#` and
-- `;`, which references have; all others, a line feed too, may start structure
abbrev pub is_harmless : ℕ → Bool
is_harmless b = is_plain b || (b == 35 || (b == 38 || b == 59))
