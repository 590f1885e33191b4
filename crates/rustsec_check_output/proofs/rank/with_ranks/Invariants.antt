use Rattle.std.proofs.Common.{◌≡◌, take}
use Rattle.rustsec_check_output.proofs.rank.with_ranks.Given as goal

abbrev pub invariant-loop-finding : goal.invariant-loop-finding
invariant-loop-finding l = l.ranked.items ≡ take l.finding-index l.findings
