use Rattle.std.proofs.lemmas.Result.{err_from_is_err_and}
use Rattle.rustsec_values.proofs.Refusals.{refused_by}
use Rattle.rustsec_advisory.proofs.front_matter.metadata.Goals as goal

pub returns-in_err-subject-clause-err : goal.returns-in_err-subject-clause-err
returns-in_err-subject-clause-err c =
    let p = err_from_is_err_and c.from_residual-in_err-subject.result c.from_residual-in_err-subject.ensures.1 in
    rw (p.1, p.2) (refused_by _ c.in_err-subject.field-0.0 (λ never m h. never _ h.subject) c.in_err-subject.ensures.err)

pub returns-in_err-kinds-clause-err : goal.returns-in_err-kinds-clause-err
returns-in_err-kinds-clause-err c =
    let p = err_from_is_err_and c.from_residual-in_err-kinds.result c.from_residual-in_err-kinds.ensures.1 in
    rw (p.1, p.2) (refused_by _ c.in_err-kinds.field-0.0 (λ never m h. never _ h.kinds) c.in_err-kinds.ensures.err)

pub returns-in_err-origin-clause-err : goal.returns-in_err-origin-clause-err
returns-in_err-origin-clause-err c =
    let p = err_from_is_err_and c.from_residual-in_err-origin.result c.from_residual-in_err-origin.ensures.1 in
    rw (p.1, p.2) (refused_by _ c.in_err-origin.field-0.0 (λ never m h. never _ h.origin) c.in_err-origin.ensures.err)

pub returns-in_err-terms-clause-err : goal.returns-in_err-terms-clause-err
returns-in_err-terms-clause-err c =
    let p = err_from_is_err_and c.from_residual-in_err-terms.result c.from_residual-in_err-terms.ensures.1 in
    rw (p.1, p.2) (refused_by _ c.in_err-terms.field-0.0 (λ never m h. never _ h.terms) c.in_err-terms.ensures.err)
