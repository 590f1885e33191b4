use Rattle.std.proofs.Common.{◌≤◌, length, arith}
use Rattle.rustsec_values.proofs.Refusals.{refusal}
use Rattle.rustsec_versions.proofs.lemmas.requirement.Stated.{stated_more}
use Rattle.std.proofs.lemmas.Grind.{common_steps}
use Rattle.rustsec_versions.specs.Views.{comparators_of}
use Rattle.rustsec_versions.proofs.requirement.comparator.bounds_of.Goals as goal

pub returns-in_default-clause-err : goal.returns-in_default-clause-err
returns-in_default-clause-err c =
    let big = c.in_default.len_at_least in
    let long : 3 ≤ length (comparators_of c.args.req.now) = grind (arith, common_steps) in
    refusal _ c.bad_param.result (stated_more _ long) c.bad_param.ensures.kind
