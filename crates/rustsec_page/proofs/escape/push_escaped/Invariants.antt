use Rattle.std.proofs.Common.{◌≡◌, ◌≤◌, ◌++◌, length, string_bytes}
use Rattle.std.specs.Str.Iter.{chars_rest}
use Rattle.std.specs.Str.{IsUtf8}
use Rattle.rustsec_page.specs.Escaped.{escaped}
use Rattle.rustsec_page.proofs.escape.push_escaped.Given as goal

-- the text so far and then the rest of the characters give the whole, and what is left is no longer than the content
abbrev pub invariant-loop-c : goal.invariant-loop-c
invariant-loop-c l =
    IsUtf8 (chars_rest l.c-iterator) × (string_bytes l.text ++ escaped (chars_rest l.c-iterator) ≡ string_bytes l.fn.text ++ escaped l.content)
    × (length (chars_rest l.c-iterator) ≤ length l.content)
