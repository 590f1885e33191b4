use Rattle.std.proofs.Common.{◌≡◌, flat_map, string_bytes, take}
use Rattle.rustsec_commands.specs.Output.{range_line}
use Rattle.rustsec_commands.proofs.command.ranges.range_lines.Given as goal

-- a line for each range so far
abbrev pub invariant-loop-range : goal.invariant-loop-range
invariant-loop-range l = string_bytes l.text ≡ flat_map range_line (take l.range-index l.ranges)
