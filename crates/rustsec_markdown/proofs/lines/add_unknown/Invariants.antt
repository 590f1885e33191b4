use Rattle.std.proofs.Common.{◌≡◌, ◌++◌, map, take}
use Rattle.rustsec_markdown.specs.MarkdownText.{unknown_line}
use Rattle.rustsec_markdown.proofs.lines.add_unknown.Given as goal

abbrev pub invariant-loop-id : goal.invariant-loop-id
invariant-loop-id l = l.lines.items ≡ l.fn.lines.items ++ map unknown_line (map (λ i. i.now) (take l.id-index l.ids))
