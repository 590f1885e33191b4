-- The lines of the input, and the content of each.
use Rattle.std.specs.Prelude.{ℕ, ◌-◌, ◌==◌, List, length, take, drop, Option, Some, None, codes, nat_eq, option_map, slice_index, if◌then◌else◌}
use Rattle.std.specs.List.{slice_split, starts_with}
use Rattle.std.specs.Str.{is_utf8}
use Rattle.semver.specs.Parse.{Held, Parts, req_of, version_parts}
use Rattle.rustsec_values.specs.Reading.{value_of}
use Rattle.rustsec_commands.specs.declared.input.InputKind.{InputKind}
use Rattle.rustsec_commands.specs.declared.input.InputKind.TheVariants as input_kind

-- the content of a line
pub data Line : Type 0 where
  blank : Line
  patched : List Held → Line
  unaffected : List Held → Line
  version : Parts → Line

-- the lines: the texts between the line feeds
abbrev pub lines_of : List ℕ → List (List ℕ)
lines_of input = slice_split (λ b. b == 10) input

-- a line without the one carriage return that ends it, if any
abbrev pub without_return : List ℕ → List ℕ
without_return line = if slice_index line (length line - 1) == 13 then take (length line - 1) line else line

-- the content of a text: a word, one space, and a requirement or a version; `None` if it is malformed
abbrev pub by_word : List ℕ → Option Line
by_word text =
    if starts_with nat_eq text (codes "patched ") then option_map patched (value_of (req_of (drop 8 text)))
    else if starts_with nat_eq text (codes "unaffected ") then option_map unaffected (value_of (req_of (drop 11 text)))
    else if starts_with nat_eq text (codes "version ") then option_map version (value_of (version_parts (drop 8 text)))
    else None

-- the content of a line without its carriage return: an empty line is blank, and one that is not UTF-8 is malformed
abbrev pub text_says : List ℕ → Option Line
text_says text =
    if length text == 0 then Some blank
    else if is_utf8 text then by_word text
    else None

-- the content of a line, or `None` if it is malformed
abbrev pub line_says : List ℕ → Option Line
line_says line = text_says (without_return line)

-- in an input of `ranges`, a line that names a version is malformed
abbrev pub said_for : InputKind → Option Line → Option Line
said_for input_kind.Verdicts said = said
said_for input_kind.Ranges None = None
said_for input_kind.Ranges (Some blank) = Some blank
said_for input_kind.Ranges (Some (patched r)) = Some (patched r)
said_for input_kind.Ranges (Some (unaffected r)) = Some (unaffected r)
said_for input_kind.Ranges (Some (version v)) = None
