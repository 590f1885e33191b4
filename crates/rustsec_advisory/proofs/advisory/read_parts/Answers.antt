use Rattle.std.proofs.lemmas.Result.{err_from_is_err_and}
use Rattle.rustsec_values.proofs.Refusals.{refused_by}
use Rattle.rustsec_advisory.proofs.Documents.{no-document}
use Rattle.rustsec_advisory.proofs.advisory.read_parts.Goals as goal

pub returns-in_err-advisory-clause-err : goal.returns-in_err-advisory-clause-err
returns-in_err-advisory-clause-err c =
    let p = err_from_is_err_and c.from_residual-in_err-advisory.result c.from_residual-in_err-advisory.ensures.1 in
    rw (p.1, p.2) (refused_by _ c.in_err-advisory.field-0.0 (no-document _ _ _ c.requires c.in_ok-document.ensures.ok) c.in_err-advisory.ensures.err)
