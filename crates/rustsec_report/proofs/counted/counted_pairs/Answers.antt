use Rattle.std.proofs.Common.{◌∙◌, ap, map, not, rules, sym}
use Rattle.rustsec_database.specs.Pairs.{as_vulnerability}
use Rattle.rustsec_database.specs.declared.vulnerability.Vulnerability.{Vulnerability}
use Rattle.rustsec_report.proofs.ReportLaws.{filter-map}
use Rattle.rustsec_report.specs.Report.{is_among, without}
use Rattle.rustsec_report.proofs.counted.counted_pairs.Goals as goal

pub returns-clause-ok : goal.returns-clause-ok
returns-clause-ok c =
    let ids = c.args.ignored.now in
    ap (map as_vulnerability) (search rules)
    ∙ (sym (filter-map (λ (v : Vulnerability). not (is_among ids v.advisory.id)) as_vulnerability c.in_ok-found.found.items)
    ∙ ap (without ids) (ap (map as_vulnerability) c.in_ok-found.ensures.ok))
