use Rattle.rustsec_osv_rules.proofs.evaluation.Agreement.{bare-ok, evaluated-ok, normalized-ok}
use Rattle.rustsec_osv_rules.proofs.evaluation.Ordered.{ordered-ok}
use Rattle.rustsec_osv_rules.proofs.evaluation.export.document_of.Goals as goal

pub returns-clause-evaluated : goal.returns-clause-evaluated
returns-clause-evaluated c =
    evaluated-ok c.args.advisory c.args.modified.now c.from_rustsec.result c.from_rustsec.ensures.ok c.from_rustsec.ensures.events

pub returns-clause-normalized : goal.returns-clause-normalized
returns-clause-normalized c =
    normalized-ok c.args.advisory c.args.modified.now c.from_rustsec.result c.from_rustsec.ensures.ok c.from_rustsec.ensures.events

pub returns-clause-bare : goal.returns-clause-bare
returns-clause-bare c =
    bare-ok c.args.advisory c.args.modified.now c.from_rustsec.result c.from_rustsec.ensures.ok c.from_rustsec.ensures.events

pub returns-clause-ordered : goal.returns-clause-ordered
returns-clause-ordered c = ordered-ok c.args.advisory c.args.modified.now c.from_rustsec.result c.from_rustsec.ensures.ok
