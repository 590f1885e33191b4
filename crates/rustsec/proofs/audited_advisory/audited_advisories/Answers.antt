use Rattle.std.proofs.Common.{◌∙◌, map, sym}
use Rattle.std.proofs.lemmas.Result.{err_from_is_err_and}
use Rattle.semver.specs.Identifiers.{parts_of}
use Rattle.rustsec_files.proofs.Lists.{pairwise-push}
use Rattle.rustsec.specs.Answers.{IsAnswer}
use Rattle.rustsec.proofs.Answers.{first-without}
use Rattle.rustsec.proofs.Taken.{taken-more, taken-split}
use Rattle.rustsec.proofs.audited_advisory.audited_advisories.Goals as goal

pub loop-advisory-preserved : goal.loop-advisory-preserved
loop-advisory-preserved c = record {
  others =
      taken-more c.loop-advisory.yielded c.loop-advisory.advisory-iterator c.next.new.self c.next.result c.in-Some.advisory c.in-Some.is c.next.ensures.steps
      ∙ c.loop-advisory.invariant.others;
  answers = rw c.in_ok-push.ensures.ok (pairwise-push (IsAnswer (map parts_of c.args.versions.now)) c.loop-advisory.yielded c.loop-advisory.answers
      c.in-Some.advisory c.in_ok-of.field-0 c.loop-advisory.invariant.answers c.in_ok-of.ensures.ok);
}

pub returns-in_err-of-clause-err : goal.returns-in_err-of-clause-err
returns-in_err-of-clause-err c =
    let p = err_from_is_err_and c.from_residual.result c.from_residual.ensures.1 in
    let step = taken-split c.loop-advisory.yielded c.loop-advisory.advisory-iterator c.next.new.self c.next.result c.in-Some.advisory c.in-Some.is c.next.ensures.steps in
    rw (p.1, p.2) (first-without (map parts_of c.args.versions.now) c.args.database c.loop-advisory.yielded c.in-Some.advisory _ c.loop-advisory.answers
    c.in_err-of.field-0.0 (sym c.into_iter-advisory-iterator.ensures.into_iter_gives.0 ∙ sym c.loop-advisory.invariant.others ∙ step)
    c.loop-advisory.invariant.answers c.in_err-of.ensures.err)
