use Rattle.std.proofs.Common.{◌≡◌, ◌++◌, flat_map, map, string_bytes, take}
use Rattle.semver.specs.Identifiers.{parts_of}
use Rattle.rustsec_page.specs.Lines.{stretch}
use Rattle.rustsec_page.specs.Pieces.{text_of}
use Rattle.rustsec_page.proofs.line.push_stretches.Given as goal

abbrev pub invariant-loop-range : goal.invariant-loop-range
invariant-loop-range l = string_bytes l.text ≡ string_bytes l.fn.text ++ text_of (flat_map (stretch (map parts_of l.cuts)) (take l.range-index l.ranges))
