use Rattle.std.proofs.Common.{◌≡◌, ◌++◌, map, take}
use Rattle.rustsec_markdown.specs.MarkdownText.{yanked_line}
use Rattle.rustsec_markdown.proofs.lines.add_yanked.Given as goal

abbrev pub invariant-loop-item : goal.invariant-loop-item
invariant-loop-item l = l.lines.items ≡ l.fn.lines.items ++ map yanked_line (take l.item-index l.yanked)
