use Rattle.std.proofs.Common.{◌≡◌, flat_map, string_bytes, take}
use Rattle.rustsec_lint_output.specs.LintText.{file_lines}
use Rattle.rustsec_lint_output.proofs.text.lines_of.Given as goal

-- the lines of the files so far
abbrev pub invariant-loop-entry : goal.invariant-loop-entry
invariant-loop-entry l = string_bytes l.lines ≡ flat_map file_lines (take l.entry-index l.entries)
