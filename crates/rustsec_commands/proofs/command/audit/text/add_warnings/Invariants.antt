use Rattle.std.proofs.Common.{◌≡◌, ◌++◌, flat_map, string_bytes, take}
use Rattle.rustsec_commands.specs.command.Audit.{kind_lines}
use Rattle.rustsec_commands.proofs.command.audit.text.add_warnings.Given as goal

-- the lines of the kinds so far
abbrev pub invariant-loop-of_kind : goal.invariant-loop-of_kind
invariant-loop-of_kind l = string_bytes l.text ≡ string_bytes l.fn.text ++ flat_map kind_lines (take l.of_kind-index l.warnings)
