use Rattle.std.proofs.Common.{arith, sym}
use Rattle.rustsec_program.proofs.OptionWords.{after-another, after-word, all-words, no-value, no_word}
use Rattle.rustsec_program.proofs.options.options_of.Goals as goal

pub returns-in_default : goal.returns-in_default
returns-in_default c =
    after-another _ _ c.loop-word.awaits c.args.words.now c.loop-word.word-index no_word c.loop-word-test.true (sym c.in_default.ensures) c.loop-word.invariant

pub loop-word-preserved : goal.loop-word-preserved
loop-word-preserved c =
    rw c.in_ok-add.ensures
    (after-word _ _ c.loop-word.awaits c.args.words.now c.loop-word.word-index no_word _ _ c.loop-word-test.true (sym c.in-Some.ensures) c.loop-word.invariant)

pub returns-in-Some-awaits : goal.returns-in-Some-awaits
returns-in-Some-awaits c = no-value _ _ _ c.args.words.now c.loop-word.word-index (omega arith) (rw c.in-Some-awaits.is at c.loop-word.invariant)

pub returns : goal.returns
returns c = all-words _ _ c.args.words.now c.loop-word.word-index (omega arith) (rw c.in-None.is at c.loop-word.invariant)
