use Rattle.std.proofs.Common.{map}
use Rattle.rustsec_database.specs.Pairs.{as_vulnerability}
use Rattle.rustsec_report.proofs.ByKind.{finished_list}
use Rattle.rustsec_report.proofs.warnings.warnings_by_kind.Goals as goal

pub returns : goal.returns
returns c =
    finished_list c.args.settings.now (map as_vulnerability c.args.pairs.now) _ _ c.loop-kind.kind-index c.loop-kind-test.false c.all-kind-items.ensures c.loop-kind.invariant
