use Rattle.std.proofs.Common.{◌≡◌, flat_map, string_bytes, take}
use Rattle.rustsec_commands.specs.command.Lint.{error_line}
use Rattle.rustsec_commands.proofs.command.lint.error_lines.Given as goal

-- a line for each lint error so far
abbrev pub invariant-loop-error : goal.invariant-loop-error
invariant-loop-error l = string_bytes l.text ≡ flat_map error_line (take l.error-index l.errors)
