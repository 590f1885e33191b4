use Rattle.std.proofs.Common.{◌≡◌, drop, map}
use Rattle.rustsec_versions.specs.Views.{comparators_of}
use Rattle.rustsec_database.specs.Spans.{first_start}
use Rattle.rustsec_database.proofs.span.first_start.Given as goal

-- the requirements that are left decide
abbrev pub invariant-loop-req : goal.invariant-loop-req
invariant-loop-req l = first_start (map comparators_of l.requirements) ≡ first_start (map comparators_of (drop l.req-index l.requirements))
