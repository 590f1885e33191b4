use Rattle.std.proofs.Common.{◌≡◌, ◌+◌, drop}
use Rattle.rustsec_commands.specs.command.Audit.{warning_count}
use Rattle.rustsec_commands.proofs.command.audit.text.warning_count.Given as goal

-- the count so far plus that of the kinds that are left is the count of all warnings
abbrev pub invariant-loop-of_kind : goal.invariant-loop-of_kind
invariant-loop-of_kind l = l.count + warning_count (drop l.of_kind-index l.warnings) ≡ warning_count l.warnings
