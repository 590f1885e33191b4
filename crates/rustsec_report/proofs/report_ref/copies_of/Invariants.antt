use Rattle.std.proofs.Common.{◌≡◌, take}
use Rattle.rustsec_report.proofs.report_ref.copies_of.Given as goal

abbrev pub invariant-loop-vulnerability : goal.invariant-loop-vulnerability
invariant-loop-vulnerability l = l.copies ≡ take l.vulnerability-index l.vulnerabilities
