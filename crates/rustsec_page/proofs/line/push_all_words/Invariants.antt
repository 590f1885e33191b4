use Rattle.std.proofs.Common.{◌≡◌, ◌++◌, flat_map, string_bytes, take}
use Rattle.rustsec_page.specs.Lines.{range_words}
use Rattle.rustsec_page.specs.Pieces.{text_of}
use Rattle.rustsec_page.proofs.line.push_all_words.Given as goal

abbrev pub invariant-loop-range : goal.invariant-loop-range
invariant-loop-range l = string_bytes l.text ≡ string_bytes l.fn.text ++ text_of (flat_map range_words (take l.range-index l.ranges))
