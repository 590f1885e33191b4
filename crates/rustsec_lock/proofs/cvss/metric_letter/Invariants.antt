use Rattle.std.proofs.Common.{◌≡◌, ◌++◌}
use Rattle.rustsec_lock.proofs.CvssParts.{found_from, listed}
use Rattle.rustsec_lock.proofs.cvss.metric_letter.Given as goal

-- what was found and what is still to be found
abbrev pub invariant-loop-part : goal.invariant-loop-part
invariant-loop-part l = listed l.found ++ found_from l.name l.parts l.part-index ≡ found_from l.name l.parts 0
