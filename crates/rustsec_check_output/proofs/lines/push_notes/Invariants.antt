use Rattle.std.proofs.Common.{◌≡◌, ◌++◌, flat_map, string_bytes, take}
use Rattle.rustsec_check_output.specs.CheckText.{note_line}
use Rattle.rustsec_check_output.proofs.lines.push_notes.Given as goal

abbrev pub invariant-loop-note : goal.invariant-loop-note
invariant-loop-note l = string_bytes l.text ≡ string_bytes l.fn.text ++ flat_map note_line (take l.note-index l.notes)
