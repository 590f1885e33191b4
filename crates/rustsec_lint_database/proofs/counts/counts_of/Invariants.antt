use Rattle.std.proofs.Common.{◌≡◌, length, take}
use Rattle.rustsec_lint_database.specs.Counts.{faults, notes}
use Rattle.rustsec_lint_database.proofs.counts.counts_of.Given as goal

-- the files so far are counted
abbrev pub invariant-loop-entry : goal.invariant-loop-entry
invariant-loop-entry l = record {
  files : l.counts.files ≡ length l.entries;
  faults : l.counts.faults ≡ faults l.upstream (take l.entry-index l.entries);
  notes : l.counts.notes ≡ notes l.upstream (take l.entry-index l.entries);
}
