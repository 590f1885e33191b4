use Rattle.std.proofs.Common.{◌≡◌, map, take}
use Rattle.rustsec_markdown.specs.MarkdownText.{row}
use Rattle.rustsec_markdown.proofs.row.rows.Given as goal

abbrev pub invariant-loop-finding : goal.invariant-loop-finding
invariant-loop-finding l = l.rows.items ≡ map (row l.packages) (take l.finding-index l.findings)
