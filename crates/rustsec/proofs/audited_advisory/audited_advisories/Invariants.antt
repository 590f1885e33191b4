use Rattle.std.proofs.Common.{◌≡◌, ◌++◌, map}
use Rattle.semver.specs.Identifiers.{parts_of}
use Rattle.rustsec_files.specs.Listed.{Pairwise}
use Rattle.rustsec.specs.Answers.{IsAnswer}
use Rattle.rustsec.proofs.audited_advisory.audited_advisories.Given as goal

-- an answer for each advisory so far; the others are still to come
abbrev pub invariant-loop-advisory : goal.invariant-loop-advisory
invariant-loop-advisory l = record {
  others : l.yielded ++ l.advisory-iterator.rest.items ≡ l.initial.advisory-iterator.rest.items;
  answers : Pairwise (IsAnswer (map parts_of l.versions)) l.yielded l.answers;
}
