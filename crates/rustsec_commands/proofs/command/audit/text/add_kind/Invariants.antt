use Rattle.std.proofs.Common.{◌≡◌, ◌++◌, flat_map, string_bytes, take}
use Rattle.rustsec_commands.specs.command.Audit.{warning_line}
use Rattle.rustsec_commands.proofs.command.audit.text.add_kind.Given as goal

-- a line for each warning so far
abbrev pub invariant-loop-warning : goal.invariant-loop-warning
invariant-loop-warning l = string_bytes l.text ≡ string_bytes l.fn.text ++ flat_map (warning_line l.kind) (take l.warning-index l.warnings)
