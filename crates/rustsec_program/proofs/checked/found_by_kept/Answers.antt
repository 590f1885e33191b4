use Rattle.std.proofs.Common.{◌∙◌, ap}
use Rattle.rustsec_program.specs.Plan.{PlanValue}
use Rattle.rustsec_program.proofs.Kept.{all-found}
use Rattle.rustsec_program.proofs.checked.found_by_kept.Goals as goal

pub returns-clause-ok : goal.returns-clause-ok
returns-clause-ok c =
    let ids = c.as_slice.ensures ∙ ap (λ (p : PlanValue). p.wanted.settings.ignore) c.plan.view_is in
    all-found c.args.plan.now c.as_slice.result.now c.args.kept.now c.args.loaded.now c.in_ok-found.found c.with_all_ids.result ids
    c.with_all_ids.ensures.check c.with_all_ids.ensures.yanked (rw c.database.ensures at c.in_ok-found.ensures.ok)
