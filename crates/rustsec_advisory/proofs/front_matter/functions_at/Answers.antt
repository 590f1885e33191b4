use Rattle.std.proofs.Common.{sym}
use Rattle.std.proofs.lemmas.Result.{IfErr-weaker}
use Rattle.rustsec_values.proofs.Refusals.{refused_by}
use Rattle.rustsec_advisory.proofs.Documents.{no-functions}
use Rattle.rustsec_advisory.proofs.front_matter.functions_at.Goals as goal

pub returns-in-Some-as_table-clause-err : goal.returns-in-Some-as_table-clause-err
returns-in-Some-as_table-clause-err c =
    let at = rw c.in-Some.is at (sym c.get.ensures) in
    let table = rw c.in-Some-as_table.is at (sym c.as_table.ensures) in
    IfErr-weaker c.functions.result _ _ (λ e. refused_by _ e (no-functions _ _ _ at table)) c.functions.ensures.err
