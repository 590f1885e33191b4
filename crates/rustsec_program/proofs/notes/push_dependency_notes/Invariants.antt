use Rattle.std.proofs.Common.{◌≡◌, ◌++◌, take}
use Rattle.rustsec_program.specs.Notes.{dependency_notes}
use Rattle.rustsec_program.proofs.notes.push_dependency_notes.Given as goal

-- the notes on the packages so far
abbrev pub invariant-loop-place : goal.invariant-loop-place
invariant-loop-place l = l.notes ≡ l.fn.notes ++ dependency_notes (take l.place l.packages) l.unresolved
