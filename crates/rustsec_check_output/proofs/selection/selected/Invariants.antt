use Rattle.std.proofs.Common.{◌≡◌, take}
use Rattle.std.specs.List.{filter}
use Rattle.rustsec_check_output.proofs.selection.selected.Given as goal

-- the findings so far that pass the test
abbrev pub invariant-loop-finding : goal.invariant-loop-finding
invariant-loop-finding g l = l.found.items ≡ filter (g.T.Predicate.holds l.test) (take l.finding-index l.findings)
