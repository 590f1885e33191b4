use Rattle.std.proofs.Common.{arith}
use Rattle.rustsec_database_commands.proofs.OptionWords.{after-another, after-word, all-words, no_word}
use Rattle.rustsec_database_commands.proofs.options.asked_of.Goals as goal

pub returns-in_default : goal.returns-in_default
returns-in_default c =
    after-another _ _ c.loop-word.awaits c.args.words.now c.loop-word.word-index no_word c.loop-word-test.true c.in_default.ensures c.loop-word.invariant

pub loop-word-preserved : goal.loop-word-preserved
loop-word-preserved c =
    after-word _ _ c.loop-word.awaits c.args.words.now c.loop-word.word-index no_word _ _ c.loop-word-test.true c.in-Some.ensures c.loop-word.invariant

pub returns : goal.returns
returns c = all-words _ _ c.args.words.now c.loop-word.word-index (omega arith) (rw c.if-awaits.false at c.loop-word.invariant)
