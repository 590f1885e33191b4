use Rattle.std.proofs.lemmas.Result.{IfErr-weaker}
use Rattle.rustsec_osv_database.proofs.Parts.{no-document}
use Rattle.rustsec_osv_database.proofs.lines.exported_document.Goals as goal

pub returns-clause-err : goal.returns-clause-err
returns-clause-err c =
    IfErr-weaker c.from_rustsec.result _ _ (λ e h other. no-document _ _ e c.in_ok-copy.ensures.ok h other) c.from_rustsec.ensures.err
