use Rattle.std.proofs.Common.{◌≡◌, map, take}
use Rattle.std.specs.List.{fold}
use Rattle.semver.specs.Identifiers.{parts_of}
use Rattle.rustsec_page.specs.Lines.{with_range}
use Rattle.rustsec_page.proofs.cuts.push_ranges.Given as goal

abbrev pub invariant-loop-range : goal.invariant-loop-range
invariant-loop-range l = map parts_of l.cuts.items ≡ fold with_range (map parts_of l.fn.cuts.items) (take l.range-index l.ranges)
