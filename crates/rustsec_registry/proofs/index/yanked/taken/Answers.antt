use Rattle.std.proofs.lemmas.Result.{err_from_is_err_and}
use Rattle.rustsec_registry.proofs.index.Asked.{all-push, messages-push, packages-push, stops-here}
use Rattle.rustsec_registry.proofs.index.yanked.taken.Goals as goal

pub loop-answer-preserved : goal.loop-answer-preserved
loop-answer-preserved c = record {
  all = all-push c.args.answers.now c.loop-answer.answer-index c.answer-item.result c.loop-answer-test.true c.answer-item.is
      c.loop-answer.invariant.all c.in_ok-take.ensures.taken;
  packages = packages-push c.args.answers.now c.loop-answer.answer-index c.answer-item.result c.loop-answer-test.true c.answer-item.is
      c.loop-answer.yanked.packages c.take.new.yanked.packages c.loop-answer.invariant.packages c.in_ok-take.ensures.packages;
  unlisted = messages-push c.args.answers.now c.loop-answer.answer-index c.answer-item.result c.loop-answer-test.true c.answer-item.is
      c.loop-answer.yanked.unlisted c.take.new.yanked.unlisted c.loop-answer.invariant.unlisted c.in_ok-take.ensures.unlisted;
}

pub returns-in_err-take-clause-err : goal.returns-in_err-take-clause-err
returns-in_err-take-clause-err c =
    let p = err_from_is_err_and c.from_residual.result c.from_residual.ensures.1 in
    rw (p.1, p.2) (stops-here c.args.answers.now c.loop-answer.answer-index c.answer-item.result c.loop-answer-test.true c.answer-item.is
    c.in_err-take.field-0.0 c.loop-answer.invariant.all c.in_err-take.ensures.err)
