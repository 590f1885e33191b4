use Rattle.std.proofs.Common.{◌≡◌, ◌++◌, flat_map, string_bytes, take}
use Rattle.std.specs.List.{filter}
use Rattle.rustsec_page.specs.Findings.{finding, is_ranked}
use Rattle.rustsec_page.specs.Pieces.{text_of}
use Rattle.rustsec_page.proofs.ranked.push_all_ranked.Given as goal

abbrev pub invariant-loop-one : goal.invariant-loop-one
invariant-loop-one l = string_bytes l.text ≡ string_bytes l.fn.text ++ text_of (flat_map (finding l.found.packages.now) (filter (is_ranked l.place) (take l.one-index l.found.drawn.now)))
