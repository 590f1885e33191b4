use Rattle.std.proofs.Common.{◌≡◌, ◌+◌, take}
use Rattle.std.specs.Prelude.{count_by, not}
use Rattle.rustsec_lint_database.specs.Remarks.{is_fault}
use Rattle.rustsec_lint_database.specs.declared.remark.Remark.{Remark}
use Rattle.rustsec_lint_database.proofs.counts.Counts.add_remarks.Given as goal

-- the remarks so far are counted
abbrev pub invariant-loop-remark : goal.invariant-loop-remark
invariant-loop-remark l = record {
  faults : l.self.faults ≡ l.fn.self.faults + count_by (λ (r : Remark). is_fault l.upstream r.kind) (take l.remark-index l.remarks);
  notes : l.self.notes ≡ l.fn.self.notes + count_by (λ (r : Remark). not (is_fault l.upstream r.kind)) (take l.remark-index l.remarks);
  files : l.self.files ≡ l.fn.self.files;
  sum : l.self.faults + l.self.notes ≡ l.fn.self.faults + l.fn.self.notes + l.remark-index;
}
