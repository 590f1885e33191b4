use Rattle.std.proofs.Common.{◌≡◌, take}
use Rattle.rustsec_report.proofs.warnings.copies_of.Given as goal

abbrev pub invariant-loop-warning : goal.invariant-loop-warning
invariant-loop-warning l = l.copies ≡ take l.warning-index l.warnings
