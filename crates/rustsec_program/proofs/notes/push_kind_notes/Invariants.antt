use Rattle.std.proofs.Common.{◌≡◌, ◌++◌, take}
use Rattle.rustsec_program.specs.Notes.{kind_notes}
use Rattle.rustsec_program.proofs.notes.push_kind_notes.Given as goal

-- the notes on the kinds so far
abbrev pub invariant-loop-kind : goal.invariant-loop-kind
invariant-loop-kind l = l.notes ≡ l.fn.notes ++ kind_notes (take l.kind-index l.kinds)
