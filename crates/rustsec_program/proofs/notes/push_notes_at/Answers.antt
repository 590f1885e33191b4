use Rattle.std.proofs.Common.{◌∙◌, ap}
use Rattle.rustsec_program.specs.Notes.{dependency_note}
use Rattle.rustsec_program.proofs.NoteLists.{entry-more}
use Rattle.rustsec_program.proofs.notes.push_notes_at.Goals as goal

pub loop-entry-preserved : goal.loop-entry-preserved
loop-entry-preserved c =
    entry-more c.args.«package».now c.texts_at-entries.result.now c.loop-entry.entry-index c.entry-item.result c.in_ok-note.note c.args.notes.now c.loop-entry.notes c.push.new.self
    c.loop-entry-test.true c.entry-item.is c.loop-entry.invariant (c.in_ok-note.ensures ∙ ap (dependency_note c.args.«package».now) c.as_str.ensures) c.in_ok-push.ensures.ok
