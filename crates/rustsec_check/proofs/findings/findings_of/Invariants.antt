use Rattle.std.proofs.Common.{take}
use Rattle.rustsec_check.specs.Facts.{AreLast}
use Rattle.rustsec_check.specs.Findings.{AreFindingsOf}
use Rattle.rustsec_check.proofs.findings.findings_of.Given as goal

-- the findings of the pairs so far, and the facts about the package of the last one
abbrev pub invariant-loop-pair : goal.invariant-loop-pair
invariant-loop-pair l = record {
  findings : AreFindingsOf l.subject (take l.pair-index l.found) l.findings.items;
  last : AreLast l.subject l.last;
}
