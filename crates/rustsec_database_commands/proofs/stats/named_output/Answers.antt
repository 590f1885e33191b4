use Rattle.std.proofs.Common.{ℕ, Bor, List}
use Rattle.std.specs.Prelude.{option_map}
use Rattle.std.proofs.lemmas.Result.{IfErr-weaker, IfOk-weaker}
use Rattle.rustsec_database_commands.proofs.Counted.{counted-in, not-counted}
use Rattle.rustsec_database_commands.proofs.stats.named_output.Goals as goal

pub returns-in-Ok-clause-ok : goal.returns-in-Ok-clause-ok
returns-in-Ok-clause-ok g c =
    IfOk-weaker c.root_output.result _ _
    (λ o h. counted-in (g.F.Folders.allowed c.args.folders.now) c.args.root.now (option_map (λ (t : Bor (List ℕ)). t.now) c.args.name) c.in-Ok.form o c.in-Ok.ensures.ok h) c.root_output.ensures.ok

pub returns-in-Ok-clause-err : goal.returns-in-Ok-clause-err
returns-in-Ok-clause-err g c =
    IfErr-weaker c.root_output.result _ _
    (λ e h other. not-counted (g.F.Folders.allowed c.args.folders.now) c.args.root.now (option_map (λ (t : Bor (List ℕ)). t.now) c.args.name) c.in-Ok.form e c.in-Ok.ensures.ok h other) c.root_output.ensures.err
