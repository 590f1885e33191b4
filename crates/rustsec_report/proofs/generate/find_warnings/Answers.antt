use Rattle.std.proofs.Common.{rules}
use Rattle.std.proofs.lemmas.Result.{IfOk-weaker}
use Rattle.rustsec_report.proofs.ByKind.{copied}
use Rattle.rustsec_report.proofs.generate.find_warnings.Goals as goal

pub returns-clause-ok : goal.returns-clause-ok
returns-clause-ok c =
    IfOk-weaker c.copies_by_kind.result _ _
    (λ copy made. copied c.args.database.now c.args.lockfile.now.packages c.args.settings.now c.as_slice.result.now copy (search rules) made)
    c.copies_by_kind.ensures.ok
