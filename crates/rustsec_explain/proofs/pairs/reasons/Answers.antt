use Rattle.std.proofs.Common.{◌∙◌, ◌++◌, ap}
use Rattle.rustsec_explain.specs.Reasons.{applying, limit_rows, reasons_of, rows, standing_rows, subject_rows, version_rows}
use Rattle.rustsec_explain.proofs.Complete.{complete}
use Rattle.rustsec_explain.proofs.Lists.{four}
use Rattle.rustsec_explain.proofs.Reported.{reported}
use Rattle.rustsec_explain.proofs.pairs.reasons.Goals as goal

pub returns-clause-ok : goal.returns-clause-ok
unfolding reasons_of
returns-clause-ok c =
    let s = c.args.settings.now in
    let a = c.args.advisory.now in
    let p = c.args.«package».now in
    four c.new-reasons.result c.add_subject.new.reasons c.add_versions.new.reasons c.add_limits.new.reasons c.add_standing.new.reasons
    (subject_rows s a p) (version_rows a p) (limit_rows s a p) (standing_rows s a)
    c.in_ok-add_subject.ensures c.in_ok-add_versions.ensures.ok c.in_ok-add_limits.ensures.ok c.in_ok-add_standing.ensures
    ∙ ap (λ l. l ++ applying (rows s a p)) c.new-reasons.ensures

pub returns-clause-complete : goal.returns-clause-complete
returns-clause-complete c = rw (returns-clause-ok c) (complete c.args.settings.now c.args.advisory.now c.args.«package».now)

pub returns-clause-reported : goal.returns-clause-reported
returns-clause-reported c =
    reported c.args.settings.now c.args.advisory.now c.args.«package».now c.add_standing.new.reasons
    (rw (returns-clause-ok c) (complete c.args.settings.now c.args.advisory.now c.args.«package».now))
