use Rattle.std.proofs.Common.{◌∙◌, ap}
use Rattle.std.proofs.lemmas.Result.{IfOk-weaker}
use Rattle.rustsec_registry.specs.index.IndexPath.{below}
use Rattle.rustsec_registry.proofs.index.Ways.{refused-at, unread-answer}
use Rattle.rustsec_registry.proofs.index.folder.file_answer.Goals as goal

pub returns-in-Err-clause-ok : goal.returns-in-Err-clause-ok
returns-in-Err-clause-ok g c =
    IfOk-weaker c.answer_without_text.result _ _
    (λ answer h. unread-answer (g.F.Folders.allowed c.args.folders.now) _ c.args.place.now c.args.path.now c.args.name.now c.in-Err.e answer c.read.ensures.same
    (refused-at (g.F.Folders.allowed c.args.folders.now) _ _ c.in-Err.e (c.as_str-2.ensures ∙ (c.in_ok-file.ensures ∙ ap (λ root. below root c.args.path.now) c.as_str.ensures)) c.in-Err.ensures.err) h) c.answer_without_text.ensures.ok
