use Rattle.std.proofs.Common.{◌≡◌, ◌++◌, flat_map, string_bytes}
use Rattle.std.specs.Char.Iter.{escape_rest}
use Rattle.std.specs.Char.Escape.{escape_unicode}
use Rattle.rustsec_markdown.specs.Escaped.{parted}
use Rattle.rustsec_markdown.proofs.escaped.push_unicode.Given as goal

-- the text so far and then the rest of the escape give the whole
abbrev pub invariant-loop-part : goal.invariant-loop-part
invariant-loop-part l =
    string_bytes l.text ++ flat_map parted (escape_rest l.part-iterator) ≡ string_bytes l.fn.text ++ flat_map parted (escape_unicode l.fn.c)
