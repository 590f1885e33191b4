use Rattle.std.proofs.Common.{◌∙◌, append_assoc, refl}
use Rattle.std.proofs.lemmas.Result.{err_from_is_err_and}
use Rattle.rustsec_versions.proofs.lemmas.acceptance.Admission.{all_admissible-more, all_admissible-stop, tagged-more}
use Rattle.rustsec_values.proofs.Refusals.{refused_by}
use Rattle.rustsec_versions.proofs.acceptance.tagged.add_tagged.Goals as goal

pub returns-in_err-push_tagged-clause-err : goal.returns-in_err-push_tagged-clause-err
returns-in_err-push_tagged-clause-err c =
    let p = err_from_is_err_and c.from_residual.result c.from_residual.ensures.1 in
    let stop = all_admissible-stop c.args.reqs.now c.loop-requirement.requirement-index c.requirement-item.result c.loop-requirement-test.true c.requirement-item.is in
    rw (p.1, p.2) (refused_by _ c.in_err-push_tagged.field-0.0 stop c.in_err-push_tagged.ensures.err)

pub loop-requirement-preserved : goal.loop-requirement-preserved
loop-requirement-preserved c =
    let reqs = c.args.reqs.now in
    let i = c.loop-requirement.requirement-index in
    let one = tagged-more c.args.is_patched reqs i c.requirement-item.result c.loop-requirement-test.true c.requirement-item.is in
    record {
      added = c.in_ok-push_tagged.ensures.ok ∙ rw (c.loop-requirement.invariant.added, one, append_assoc) refl;
      admissible = all_admissible-more reqs i c.requirement-item.result c.loop-requirement-test.true c.requirement-item.is c.in_ok-push_tagged.ensures.admissible
          c.loop-requirement.invariant.admissible;
    }
