use Rattle.std.proofs.Common.{◌≡◌, ◌++◌, map, take}
use Rattle.rustsec_markdown.specs.MarkdownText.{note_line}
use Rattle.rustsec_markdown.proofs.lines.add_notes.Given as goal

abbrev pub invariant-loop-note : goal.invariant-loop-note
invariant-loop-note l = l.lines.items ≡ l.fn.lines.items ++ map note_line (take l.note-index l.notes)
