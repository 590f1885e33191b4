use Rattle.std.proofs.lemmas.Result.{err_from_is_err_and}
use Rattle.rustsec_files.proofs.Same.{same-refl, same-trans}
use Rattle.rustsec_program.proofs.ManyLines.{all-written, first-written, none-written, written-more}
use Rattle.rustsec_program.proofs.OptionWords.{no_word}
use Rattle.rustsec_program.proofs.many.write_lines.Goals as goal

pub loop-path-init : goal.loop-path-init
loop-path-init g c = record { same = same-refl _; lines = none-written _ _ _ }

pub loop-path-preserved : goal.loop-path-preserved
loop-path-preserved g c = record {
  same = same-trans _ _ _ c.loop-path.invariant.same c.answer_output.ensures.same;
  lines = written-more _ _ _ _ c.loop-path.path-index no_word _ _ _ _ _ c.in_ok-line.line c.loop-path.invariant.same c.loop-path-test.true
      c.loop-path.invariant.lines c.in_ok-line.ensures.ok c.in_ok-write_line.ensures.ok.0 c.in_ok-write_line.ensures.ok.1;
}

pub returns-in_err-line-clause-err : goal.returns-in_err-line-clause-err
returns-in_err-line-clause-err g c =
    let p = err_from_is_err_and c.from_residual.result c.from_residual.ensures.1 in
    rw (p.1, p.2) (λ _. first-written _ _ _ c.loop-path.path-index _ _ _ c.loop-path.invariant.lines)

pub returns-clause-ok : goal.returns-clause-ok
returns-clause-ok g c = all-written _ _ _ c.loop-path.path-index _ _ _ c.loop-path-test.false c.loop-path.invariant.lines
