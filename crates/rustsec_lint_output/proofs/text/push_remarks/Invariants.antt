use Rattle.std.proofs.Common.{◌≡◌, ◌++◌, flat_map, string_bytes, take}
use Rattle.rustsec_lint_output.specs.LintText.{remark_line}
use Rattle.rustsec_lint_output.proofs.text.push_remarks.Given as goal

-- the lines of the remarks so far
abbrev pub invariant-loop-remark : goal.invariant-loop-remark
invariant-loop-remark l =
    string_bytes l.lines ≡ string_bytes l.fn.lines ++ flat_map (remark_line l.path) (take l.remark-index l.remarks)
