use Rattle.std.proofs.lemmas.Result.{IfOk-weaker}
use Rattle.rustsec_osv_database.proofs.lines.chosen_of.Goals as goal

pub returns-clause-ok : goal.returns-clause-ok
returns-clause-ok c = IfOk-weaker c.chosen.result _ _ (λ d h. (c.in_ok-document.document, (c.in_ok-document.ensures.ok, h))) c.chosen.ensures.ok
