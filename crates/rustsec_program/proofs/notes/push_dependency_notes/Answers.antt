use Rattle.std.proofs.Common.{◌∙◌, ◌++◌, ap, append-nil, append_assoc, sym, take}
use Rattle.rustsec_program.specs.Notes.{dependency_notes, dependency_notes_at}
use Rattle.rustsec_program.proofs.NoteLists.{notes-more}
use Rattle.rustsec_program.proofs.notes.push_dependency_notes.Goals as goal

pub loop-place-init : goal.loop-place-init
loop-place-init c = sym (append-nil c.args.notes.now)

pub loop-place-preserved : goal.loop-place-preserved
loop-place-preserved c =
    let packages = c.args.packages.now in
    let entries = c.args.unresolved.now in
    let i = c.loop-place.place in
    let p = c.index-packages-place.result in
    c.in_ok-push_notes_at.ensures
    ∙ (ap (λ ns. ns ++ dependency_notes_at entries (i, p)) c.loop-place.invariant
    ∙ (append_assoc c.args.notes.now (dependency_notes (take i packages) entries) (dependency_notes_at entries (i, p))
    ∙ ap (λ ns. c.args.notes.now ++ ns) (sym (notes-more entries packages i p c.loop-place-test.true c.index-packages-place.is))))
