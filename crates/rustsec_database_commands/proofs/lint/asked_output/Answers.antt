use Rattle.std.proofs.lemmas.Result.{IfErr-weaker, IfOk-weaker}
use Rattle.rustsec_database_commands.specs.Steps.{asked_view}
use Rattle.rustsec_database_commands.proofs.Outputs.{all-linted, misread, not-listed}
use Rattle.rustsec_database_commands.proofs.lint.asked_output.Goals as goal

pub returns-in-Err-clause-err : goal.returns-in-Err-clause-err
returns-in-Err-clause-err g c =
    let asked = asked_view c.args.asked in
    λ other. misread (g.F.Folders.allowed c.args.folders.now) c.args.root.now asked.format asked.upstream _ c.in-Err.ensures.err other

pub returns-clause-ok : goal.returns-clause-ok
returns-clause-ok g c =
    let asked = asked_view c.args.asked in
    IfOk-weaker c.root_output.result _ _
    (λ o h. all-linted (g.F.Folders.allowed c.args.folders.now) c.args.root.now asked.format _ asked.upstream o c.in-Ok.ensures.ok h)
    c.root_output.ensures.ok

pub returns-clause-err : goal.returns-clause-err
returns-clause-err g c =
    let asked = asked_view c.args.asked in
    IfErr-weaker c.root_output.result _ _
    (λ e h other. not-listed (g.F.Folders.allowed c.args.folders.now) c.args.root.now asked.format _ asked.upstream e c.in-Ok.ensures.ok h other)
    c.root_output.ensures.err
