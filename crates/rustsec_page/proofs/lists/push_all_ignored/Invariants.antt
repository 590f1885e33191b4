use Rattle.std.proofs.Common.{◌≡◌, ◌++◌, flat_map, string_bytes, take}
use Rattle.rustsec_page.specs.Lists.{ignored_row}
use Rattle.rustsec_page.specs.Pieces.{text_of}
use Rattle.rustsec_page.proofs.lists.push_all_ignored.Given as goal

abbrev pub invariant-loop-pair : goal.invariant-loop-pair
invariant-loop-pair l = string_bytes l.text ≡ string_bytes l.fn.text ++ text_of (flat_map (ignored_row l.entries) (take l.pair-index l.pairs))
