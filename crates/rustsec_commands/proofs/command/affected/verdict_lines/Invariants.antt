use Rattle.std.proofs.Common.{◌≡◌, flat_map, map, string_bytes, take}
use Rattle.rustsec_commands.specs.Output.{verdict}
use Rattle.rustsec_commands.specs.input.Views.{version_view}
use Rattle.rustsec_commands.proofs.command.affected.verdict_lines.Given as goal

-- a line for each version so far
abbrev pub invariant-loop-version : goal.invariant-loop-version
invariant-loop-version l = string_bytes l.text ≡ flat_map (verdict l.lists) (map version_view (take l.version-index l.versions))
