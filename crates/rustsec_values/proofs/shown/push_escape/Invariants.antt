use Rattle.std.proofs.Common.{◌≡◌, ◌++◌, string_bytes}
use Rattle.std.specs.Char.Iter.{escape_rest}
use Rattle.std.specs.Char.Escape.{escape_unicode}
use Rattle.std.specs.Str.{encode_utf8_all}
use Rattle.rustsec_values.proofs.shown.push_escape.Given as goal

-- the text so far and then the rest of the escape give the whole
abbrev pub invariant-loop-part : goal.invariant-loop-part
invariant-loop-part l =
    string_bytes l.text ++ encode_utf8_all (escape_rest l.part-iterator) ≡ string_bytes l.fn.text ++ encode_utf8_all (escape_unicode l.fn.c)
