use Rattle.std.proofs.Common.{◌≡◌, ◌++◌, flat_map, map, string_bytes, take}
use Rattle.semver.specs.Identifiers.{parts_of}
use Rattle.rustsec_page.specs.Lines.{tick}
use Rattle.rustsec_page.specs.Pieces.{text_of}
use Rattle.rustsec_page.proofs.line.push_ticks.Given as goal

abbrev pub invariant-loop-cut : goal.invariant-loop-cut
invariant-loop-cut l = string_bytes l.text ≡ string_bytes l.fn.text ++ text_of (flat_map (tick (map parts_of l.cuts)) (map parts_of (take l.cut-index l.cuts)))
