use Rattle.std.proofs.Common.{◌≡◌, ◌++◌, map, take, true}
use Rattle.rustsec_versions.specs.acceptance.Lists.{all_admissible}
use Rattle.rustsec_versions.specs.acceptance.Sweep.{tagged}
use Rattle.rustsec_versions.specs.Views.{comparators_of}
use Rattle.rustsec_versions.proofs.acceptance.tagged.add_tagged.Given as goal

-- the requirements so far are admissible, and their intervals were appended
abbrev pub invariant-loop-requirement : goal.invariant-loop-requirement
invariant-loop-requirement l = record {
  added : l.intervals.items ≡ l.fn.intervals.items ++ tagged l.is_patched (map comparators_of (take l.requirement-index l.reqs));
  admissible : all_admissible (map comparators_of (take l.requirement-index l.reqs)) ≡ true;
}
