use Rattle.std.proofs.Common.{◌≡◌, ◌++◌, string_bytes, take}
use Rattle.rustsec_markdown.specs.MarkdownText.{steps}
use Rattle.rustsec_markdown.proofs.row.push_steps.Given as goal

abbrev pub invariant-loop-place : goal.invariant-loop-place
invariant-loop-place l = string_bytes l.text ≡ string_bytes l.fn.text ++ steps l.packages (take l.place-index l.path)
