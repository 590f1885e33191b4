use Rattle.std.proofs.Common.{◌≡◌, ◌++◌, map, take}
use Rattle.rustsec_markdown.specs.MarkdownText.{ignored_line}
use Rattle.rustsec_markdown.proofs.lines.add_ignored.Given as goal

abbrev pub invariant-loop-pair : goal.invariant-loop-pair
invariant-loop-pair l = l.lines.items ≡ l.fn.lines.items ++ map (ignored_line l.entries) (take l.pair-index l.pairs)
