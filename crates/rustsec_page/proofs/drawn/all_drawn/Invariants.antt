use Rattle.std.proofs.Common.{take}
use Rattle.rustsec_page.specs.Findings.{AreDrawn}
use Rattle.rustsec_page.proofs.drawn.all_drawn.Given as goal

-- the findings so far
abbrev pub invariant-loop-finding : goal.invariant-loop-finding
invariant-loop-finding l = AreDrawn (take l.finding-index l.findings) l.drawn.items
