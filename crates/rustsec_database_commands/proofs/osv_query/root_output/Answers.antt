use Rattle.std.proofs.lemmas.Result.{IfOk-weaker}
use Rattle.semver.specs.Identifiers.{parts_of}
use Rattle.rustsec_database_commands.proofs.Counted.{answer-refused, answered-with, unanswered-by}
use Rattle.rustsec_database_commands.proofs.osv_query.root_output.Goals as goal

pub returns-in-Err-clause-ok : goal.returns-in-Err-clause-ok
returns-in-Err-clause-ok g c =
    IfOk-weaker c.refusal_output.result _ _
    (λ o h. answer-refused (g.F.Folders.allowed c.args.folders.now) c.args.root.now c.args.name (parts_of c.args.version) c.in-Err.error o
    c.in-Err.ensures.err h.0 h.1) c.refusal_output.ensures

pub returns-in-Ok-answer_of-clause-ok : goal.returns-in-Ok-answer_of-clause-ok
returns-in-Ok-answer_of-clause-ok g c =
    answered-with (g.F.Folders.allowed c.args.folders.now) c.args.root.now c.args.name (parts_of c.args.version) _ _ c.new.result c.in-Ok.ensures.ok
    c.in-Ok-answer_of.ensures.ok c.new.ensures

pub returns-clause-ok : goal.returns-clause-ok
returns-clause-ok g c =
    IfOk-weaker c.refusal_output-in-Err-answer_of.result _ _
    (λ o h. unanswered-by (g.F.Folders.allowed c.args.folders.now) c.args.root.now c.args.name (parts_of c.args.version) _ c.in-Err-answer_of.error o
    c.in-Ok.ensures.ok c.in-Err-answer_of.ensures.err h.0 h.1) c.refusal_output-in-Err-answer_of.ensures
