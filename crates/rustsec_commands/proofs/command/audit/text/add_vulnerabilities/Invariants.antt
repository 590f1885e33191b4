use Rattle.std.proofs.Common.{◌≡◌, ◌++◌, flat_map, string_bytes, take}
use Rattle.rustsec_commands.specs.command.Audit.{vulnerability_line}
use Rattle.rustsec_commands.proofs.command.audit.text.add_vulnerabilities.Given as goal

-- a line for each vulnerability so far
abbrev pub invariant-loop-vulnerability : goal.invariant-loop-vulnerability
invariant-loop-vulnerability l = string_bytes l.text ≡ string_bytes l.fn.text ++ flat_map vulnerability_line (take l.vulnerability-index l.found)
