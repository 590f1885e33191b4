use Rattle.std.proofs.lemmas.Result.{err_from_is_err_and}
use Rattle.rustsec_values.proofs.Refusals.{refused_by}
use Rattle.rustsec_policy.proofs.Days.{ids-more, ids-none, ids-stop}
use Rattle.rustsec_policy.proofs.ignored.ids_on.Goals as goal

pub loop-entry-init : goal.loop-entry-init
loop-entry-init c = rw c.new-ids.ensures (ids-none _)

pub returns-in_err-add_id-clause-err : goal.returns-in_err-add_id-clause-err
returns-in_err-add_id-clause-err c =
    let p = err_from_is_err_and c.from_residual.result c.from_residual.ensures.1 in
    rw (p.1, p.2) (refused_by _ c.in_err-add_id.field-0.0 (ids-stop _ c.args.entries.now c.loop-entry.entry-index c.entry-item.result c.loop-entry-test.true c.entry-item.is)
    c.in_err-add_id.ensures.err)

pub loop-entry-preserved : goal.loop-entry-preserved
loop-entry-preserved c =
    ids-more _ c.args.entries.now c.loop-entry.entry-index c.entry-item.result _ _ c.loop-entry-test.true c.entry-item.is c.loop-entry.invariant
    c.in_ok-add_id.ensures.ok
