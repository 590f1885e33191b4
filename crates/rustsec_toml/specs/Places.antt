-- Places in a text, and where the packages of a lockfile begin in its text.
use Rattle.std.specs.Prelude.{◌≡◌, ◌≢◌, ◌+◌, ◌-◌, ◌==◌, ◌&&◌, ◌||◌, ◌++◌, ◌↔◌, ℕ, zero, suc, Bool, not, if◌then◌else◌, List, [], ◌∷◌, Some, None, codes, count_by, drop, length, map, min, nat_eq, nat_lt, reverse, take, Contains, IsTrue}
use Rattle.std.specs.Int.{is_in_range}
use Rattle.std.specs.List.{list_all, starts_with, take_while}
use Rattle.std.specs.List.Sorted.{IsStrictlyIncreasing}
use Rattle.std.specs.Fmt.{decimal}
use Rattle.toml_parser.specs.Lexical.{Read, first, hash, is_ws, line_feed, skip_blank, skip_ws, starts_newline}
use Rattle.toml_parser.specs.Strings.{key, quoted, starts_string}
use Rattle.rustsec_toml.specs.declared.place.Place.{Place}

-- ---- ends

-- a text is what comes after a front of another one
pub record IsEnd (rest text : List ℕ) : Type 0 where
  pub before : List ℕ
  pub whole : text ≡ before ++ rest

-- ---- lines and columns

-- whether a byte goes on with a character (RFC 3629, section 3: 10xxxxxx)
abbrev pub goes_on : ℕ → Bool
goes_on b = is_in_range 0x80 0xBF b

-- the bytes since the last line feed, the last one first
abbrev pub last_line : List ℕ → List ℕ
last_line before = take_while (λ b. not (b == line_feed)) (reverse before)

-- the place after some bytes: each line feed begins a line, and each character since the last one takes a column
unfoldable pub place_past : List ℕ → Place
place_past before = record {
  line = 1 + count_by (λ b. b == line_feed) before;
  column = 1 + count_by (λ b. not (goes_on b)) (last_line before);
}

-- the first line and its first column
abbrev pub beginning : Place
beginning = record { line = 1; column = 1 }

-- the same place of a file in which the text begins at this line; the line is at most the largest number
abbrev pub from_line : ℕ → Place → Place
from_line line p = record p { line = min (p.line + (line - 1)) 0xFFFF_FFFF_FFFF_FFFF }

-- a place of a text: that after a front of it
pub record IsPlaceOf (text : List ℕ) (place : Place) : Type 0 where
  pub before : List ℕ
  pub after : List ℕ
  pub whole : text ≡ before ++ after
  pub shown : place ≡ place_past before

-- a line of a file in which a place of a text is; the text begins in the first of these lines
abbrev pub IsLineOf : ℕ → List ℕ → ℕ → Type 0
IsLineOf first text line = (p : Place) × IsPlaceOf text p × (line ≡ (from_line first p).line)

abbrev pub place_words : Place → List ℕ
place_words p = codes "line " ++ (decimal p.line ++ (codes ", column " ++ decimal p.column))

-- ---- tokens

-- the text after what was read, and nothing where nothing could be read
abbrev pub rest_of : Read (List ℕ) → List ℕ
rest_of None = []
rest_of (Some r) = r.1

-- the byte order mark (RFC 3629, section 6)
abbrev pub mark : List ℕ
mark = 0xEF ∷ 0xBB ∷ 0xBF ∷ []

-- a text without a byte order mark at its front
abbrev pub skip_mark : List ℕ → List ℕ
skip_mark text = if starts_with nat_eq text mark then drop (length mark) text else text

-- the text after its first token: a string, or else one byte. NUL and characters outside of ASCII begin no token, so that
-- the text after them is empty.
unfoldable pub after_token : List ℕ → List ℕ
after_token text =
    if starts_string text then rest_of (quoted text)
    else if nat_lt 0 (first text) && nat_lt (first text) 128 then drop 1 text
    else []

-- the text from the next token on: after one token, and after white space, line feeds and comments
abbrev pub next_token : List ℕ → List ℕ
next_token text = skip_blank (after_token text)

-- the front of a text, up to the rest of it
abbrev pub up_to : List ℕ → List ℕ → List ℕ
up_to rest text = take (length text - length rest) text

-- the text from its token at an index on, which is in no string and in no comment
unfoldable pub from_token : List ℕ → ℕ → List ℕ
from_token text zero = skip_blank text
from_token text (suc n) = next_token (from_token text n)

-- ---- keys

-- a key begins there, dotted or not (TOML 1.0.0, "Keys")
abbrev pub StartsKey : List ℕ → Type 0
StartsKey text = key text ≢ None

-- ---- headers

-- whether only white space and a comment are left in the line
abbrev pub ends_line : List ℕ → Bool
ends_line text = length (skip_ws text) == 0 || (first (skip_ws text) == hash || starts_newline (skip_ws text))

-- two brackets are there, and nothing else in their line
pub record Closes (text : List ℕ) : Type 0 where
  pub after : List ℕ
  pub closed : text ≡ codes "]]" ++ after
  pub ended : IsTrue (ends_line after)

-- after some bytes, a text begins with the header of an array of tables: two brackets, the array's key and two brackets,
-- on a line of their own (TOML 1.0.0, "Array of Tables")
pub record IsHeader (name before text : List ℕ) : Type 0 where
  pub inside : List ℕ
  pub closing : List ℕ
  pub opened : text ≡ codes "[[" ++ inside
  pub keyed : key (skip_ws inside) ≡ Some (([], name), closing)
  pub closed : Closes closing
  pub alone : IsTrue (list_all is_ws (last_line before))

-- the header of a package begins at the token at an index
abbrev pub IsPackageAt : List ℕ → ℕ → Type 0
IsPackageAt text n = IsHeader (codes "package") (up_to (from_token text n) text) (from_token text n)

-- the places are those of all headers of packages, in order; the headers begin at the tokens at these indices
pub record ArePackages (text : List ℕ) (places : List Place) : Type 0 where
  pub tokens : List ℕ
  pub rising : IsStrictlyIncreasing tokens
  pub all : (n : ℕ) → Contains tokens n ↔ IsPackageAt text n
  pub shown : places ≡ map (λ n. place_past (up_to (from_token text n) text)) tokens
