use Rattle.std.proofs.Common.{◌≡◌, ◌++◌, flat_map, string_bytes}
use Rattle.std.specs.Str.Iter.{chars_rest}
use Rattle.std.specs.Str.{IsUtf8, chars}
use Rattle.rustsec_markdown.specs.Escaped.{escaped_char}
use Rattle.rustsec_markdown.proofs.escaped.push_escaped.Given as goal

-- the text so far and then the rest of the characters give the whole
abbrev pub invariant-loop-c : goal.invariant-loop-c
invariant-loop-c l =
    IsUtf8 (chars_rest l.c-iterator)
    × (string_bytes l.text ++ flat_map escaped_char (chars (chars_rest l.c-iterator)) ≡ string_bytes l.fn.text ++ flat_map escaped_char (chars l.content))
