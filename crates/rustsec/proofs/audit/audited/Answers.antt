use Rattle.std.proofs.Common.{map}
use Rattle.std.proofs.lemmas.Result.{err_from_is_err_and}
use Rattle.semver.specs.Identifiers.{parts_of}
use Rattle.rustsec_report.proofs.EndToEnd.{report-of-text}
use Rattle.rustsec.specs.Answers.{HasEvents, HasRanges, HasVerdicts}
use Rattle.rustsec.proofs.Acceptance.{all-accepted}
use Rattle.rustsec.proofs.Answers.{each-has, ids-in-order}
use Rattle.rustsec.proofs.Refusals.{for-export, for-file, for-lockfile, for-memory}
use Rattle.rustsec.proofs.audit.audited.Goals as goal

pub returns-clause-acceptance : goal.returns-clause-acceptance
returns-clause-acceptance c =
    let loaded = c.in_ok-database.ensures.ok in
    all-accepted c.args.files.now loaded.all loaded.are_filed

pub returns-clause-verdicts : goal.returns-clause-verdicts
returns-clause-verdicts c =
    let versions = map parts_of c.args.versions.now in
    let loaded = c.in_ok-database.ensures.ok in
    each-has versions (HasVerdicts versions) (λ a x h. h.verdicts) c.args.files.now _ _ loaded c.in_ok-advisories.ensures.ok

pub returns-clause-ranges : goal.returns-clause-ranges
returns-clause-ranges c =
    let loaded = c.in_ok-database.ensures.ok in
    each-has (map parts_of c.args.versions.now) HasRanges (λ a x h. h.ranges) c.args.files.now _ _ loaded c.in_ok-advisories.ensures.ok

pub returns-clause-events : goal.returns-clause-events
returns-clause-events c =
    let loaded = c.in_ok-database.ensures.ok in
    each-has (map parts_of c.args.versions.now) HasEvents (λ a x h. h.events) c.args.files.now _ _ loaded c.in_ok-advisories.ensures.ok

pub returns-clause-report : goal.returns-clause-report
returns-clause-report c =
    let loaded = c.in_ok-database.ensures.ok in
    report-of-text c.args.files.now c.args.lockfile.now c.args.settings.now c.in_ok-database.database c.in_ok-lockfile.lockfile.packages
    c.in_ok-report.report loaded c.in_ok-lockfile.ensures.ok c.in_ok-report.ensures.chain

pub returns-clause-order : goal.returns-clause-order
returns-clause-order c = record {
  advisories = c.in_ok-database.database;
  are_loaded = c.in_ok-database.ensures.ok;
  packages = c.in_ok-lockfile.lockfile.packages;
  are_packages = c.in_ok-lockfile.ensures.ok;
  report = c.in_ok-report.ensures.ok;
  answers = ids-in-order (map parts_of c.args.versions.now) c.in_ok-database.database c.in_ok-advisories.advisories c.in_ok-advisories.ensures.ok;
}

pub returns-in_err-database-clause-err : goal.returns-in_err-database-clause-err
returns-in_err-database-clause-err c =
    let p = err_from_is_err_and c.from_residual.result c.from_residual.ensures.1 in
    rw (p.1, p.2) (for-file c.args.files.now c.args.lockfile.now c.in_err-database.field-0.0 c.in_err-database.ensures.err)

pub returns-in_err-lockfile-clause-err : goal.returns-in_err-lockfile-clause-err
returns-in_err-lockfile-clause-err c =
    let p = err_from_is_err_and c.from_residual-in_err-lockfile.result c.from_residual-in_err-lockfile.ensures.1 in
    rw (p.1, p.2) (for-lockfile c.args.files.now c.args.lockfile.now c.in_err-lockfile.field-0.0 c.in_ok-database.database c.in_ok-database.ensures.ok
    c.in_err-lockfile.ensures.err)

pub returns-in_err-report-clause-err : goal.returns-in_err-report-clause-err
returns-in_err-report-clause-err c =
    let p = err_from_is_err_and c.from_residual-in_err-report.result c.from_residual-in_err-report.ensures.1 in
    rw (p.1, p.2) (for-memory c.args.files.now c.args.lockfile.now c.in_err-report.field-0.0 c.in_err-report.ensures.err)

pub returns-in_err-advisories-clause-err : goal.returns-in_err-advisories-clause-err
returns-in_err-advisories-clause-err c =
    let p = err_from_is_err_and c.from_residual-in_err-advisories.result c.from_residual-in_err-advisories.ensures.1 in
    rw (p.1, p.2) (for-export c.args.files.now c.args.lockfile.now c.in_err-advisories.field-0.0 c.in_ok-database.database c.in_ok-database.ensures.ok
    c.in_ok-lockfile.lockfile.packages c.in_ok-lockfile.ensures.ok c.in_err-advisories.ensures.err)
