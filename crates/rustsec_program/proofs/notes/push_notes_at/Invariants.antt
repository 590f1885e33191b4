use Rattle.std.proofs.Common.{◌≡◌, ◌++◌, map, take}
use Rattle.rustsec_program.specs.Notes.{dependency_note}
use Rattle.rustsec_program.proofs.notes.push_notes_at.Given as goal

-- the notes on the entries so far
abbrev pub invariant-loop-entry : goal.invariant-loop-entry
invariant-loop-entry l = l.notes ≡ l.fn.notes ++ map (dependency_note l.«package») (take l.entry-index l.entries)
