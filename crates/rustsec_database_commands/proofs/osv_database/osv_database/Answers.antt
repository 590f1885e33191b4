use Rattle.std.proofs.Common.{ℕ, Bor, List, map}
use Rattle.std.proofs.lemmas.Result.{IfOk-weaker}
use Rattle.rustsec_database_commands.proofs.Counted.{exported-by, not-exported}
use Rattle.rustsec_database_commands.proofs.osv_database.osv_database.Goals as goal

pub returns-in-Ok-clause-ok : goal.returns-in-Ok-clause-ok
returns-in-Ok-clause-ok g c =
    exported-by (g.F.Folders.allowed c.args.folders.now) c.args.root.now c.args.modified.now (map (λ (w : Bor (List ℕ)). w.now) c.args.words.now)
    c.in-Some.choice c.in-Ok.output c.in-Some.ensures c.in-Ok.ensures.ok

pub returns-in-Err-clause-ok : goal.returns-in-Err-clause-ok
returns-in-Err-clause-ok g c =
    IfOk-weaker c.refusal_output.result _ _
    (λ o h. not-exported (g.F.Folders.allowed c.args.folders.now) c.args.root.now c.args.modified.now (map (λ (w : Bor (List ℕ)). w.now) c.args.words.now)
    c.in-Some.choice c.in-Err.error o c.in-Some.ensures c.in-Err.ensures.err h.0 h.1) c.refusal_output.ensures
