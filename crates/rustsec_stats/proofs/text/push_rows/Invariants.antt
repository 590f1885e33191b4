use Rattle.std.proofs.Common.{◌≡◌, ◌++◌, string_bytes, take}
use Rattle.rustsec_stats.specs.StatsText.{row_lines}
use Rattle.rustsec_stats.proofs.text.push_rows.Given as goal

-- the lines of the rows so far
abbrev pub invariant-loop-row : goal.invariant-loop-row
invariant-loop-row l = string_bytes l.text ≡ string_bytes l.fn.text ++ row_lines l.most (take l.row-index l.counts)
