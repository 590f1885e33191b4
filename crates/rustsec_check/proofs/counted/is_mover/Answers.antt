use Rattle.std.proofs.Common.{◌≡◌, rules, true}
use Rattle.rustsec_report.specs.Report.{is_among}
use Rattle.rustsec_check.proofs.Movers.{decided}
use Rattle.rustsec_check.proofs.counted.is_mover.Goals as goal

pub returns-clause-ok : goal.returns-clause-ok
returns-clause-ok c = λ all of valid.
    let among : is_among c.args.ids.now c.args.advisory.now.metadata.id ≡ true = search rules in
    decided _ _ _ among (c.is_moved_by.ensures.ok all of valid)
