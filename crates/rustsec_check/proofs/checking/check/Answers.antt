use Rattle.std.proofs.Common.{◌≡◌, subst}
use Rattle.rustsec_lock.specs.Lockfile.{AreValid}
use Rattle.rustsec_report.specs.Report.{vulnerabilities, warnings}
use Rattle.rustsec_check.specs.AsReport.{vulnerabilities_in, warnings_among}
use Rattle.rustsec_check.specs.Checks.{IsCheckOf}
use Rattle.rustsec_check.specs.Values.{CheckValue, SubjectValue}
use Rattle.rustsec_check.proofs.AsReport.{as-reported}
use Rattle.rustsec_check.proofs.AsWarnings.{as-warned}
use Rattle.rustsec_check.proofs.OneCheck.{one_check}
use Rattle.rustsec_check.proofs.checking.check.Goals as goal

pub returns-clause-as_reports : goal.returns-clause-as_reports
returns-clause-as_reports c =
    let findings = c.in_ok-answer.answer.findings in
    subst (λ (s : SubjectValue). vulnerabilities_in findings ≡ vulnerabilities s.advisories s.packages s.settings) c.new-subject.ensures
    (as-reported c.new-subject.result findings c.in_ok-answer.ensures.ok.findings)

pub returns-clause-only : goal.returns-clause-only
returns-clause-only c =
    let answer = c.in_ok-answer.answer in
    subst (λ (s : SubjectValue). AreValid s.packages → (other : CheckValue) → IsCheckOf s other → other ≡ answer) c.new-subject.ensures
    (λ valid other is. one_check c.new-subject.result answer other valid c.in_ok-answer.ensures.ok is)

pub returns-clause-as_warnings : goal.returns-clause-as_warnings
returns-clause-as_warnings c =
    let findings = c.in_ok-answer.answer.findings in
    subst (λ (s : SubjectValue). warnings_among findings ≡ warnings s.advisories s.packages s.settings) c.new-subject.ensures
    (as-warned c.new-subject.result findings c.in_ok-answer.ensures.ok.findings)
