use Rattle.std.proofs.Common.{◌≡◌, [], drop}
use Rattle.rustsec_report.specs.Kinds.{with_kinds}
use Rattle.rustsec_report.proofs.warnings.copies_by_kind.Given as goal

-- the copies so far with the kinds that are left are all kinds
abbrev pub invariant-loop-of_kind : goal.invariant-loop-of_kind
invariant-loop-of_kind l = with_kinds l.copies (drop l.of_kind-index l.warnings) ≡ with_kinds [] l.warnings
