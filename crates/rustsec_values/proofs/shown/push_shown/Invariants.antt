use Rattle.std.proofs.Common.{◌≡◌, ◌++◌, ◌≤◌, length, string_bytes}
use Rattle.std.specs.Str.Iter.{chars_rest}
use Rattle.std.specs.Str.{IsUtf8}
use Rattle.rustsec_values.specs.Shown.{shown}
use Rattle.rustsec_values.proofs.shown.push_shown.Given as goal

-- the text so far and then the rest of the characters give the whole, and what is left is no longer than the text
abbrev pub invariant-loop-c : goal.invariant-loop-c
invariant-loop-c l =
    IsUtf8 (chars_rest l.c-iterator) × (string_bytes l.note ++ shown (chars_rest l.c-iterator) ≡ string_bytes l.fn.note ++ shown l.text)
    × (length (chars_rest l.c-iterator) ≤ length l.text)
