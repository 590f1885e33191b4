use Rattle.std.proofs.Common.{◌∙◌, arith, sym}
use Rattle.std.proofs.lemmas.List.{map-append}
use Rattle.rustsec_commands.proofs.lemmas.args.OptionWords.{after-all, after-another, after-deny, after-id, after-ignore, after-no-id, no_word}
use Rattle.rustsec_commands.proofs.args.options.options_of.Goals as goal
use Rattle.rustsec_commands.proofs.args.options.options_of.Goals.{else-awaits_id+else-eq+then-eq-2, else-awaits_id+then-eq, then-awaits_id+in_ok-push}

pub returns-else-eq-2 : goal.returns-else-eq-2
returns-else-eq-2 c =
    after-another _ _ _ c.args.words.now c.loop-word.word-index no_word c.loop-word-test.true
    (sym c.eq-else-eq.ensures ∙ c.if-eq-2.false) (sym c.eq.ensures ∙ c.if-eq.false) (rw c.if-awaits_id.false at c.loop-word.invariant)

pub loop-word-preserved : goal.loop-word-preserved
loop-word-preserved c = elim c.if-awaits_id.branch [
  | then-awaits_id+in_ok-push w ↦
      rw (w.ignored-is, w.deny_warnings-is, w.awaits_id-is, w.in_ok-push.ensures.items, map-append)
      (after-id _ _ _ c.args.words.now c.loop-word.word-index no_word c.loop-word-test.true (rw w.if-awaits_id.true at c.loop-word.invariant))
  | else-awaits_id+then-eq w ↦
      rw (w.ignored-is, w.deny_warnings-is, w.awaits_id-is)
      (after-ignore _ _ _ c.args.words.now c.loop-word.word-index no_word c.loop-word-test.true (sym w.eq.ensures ∙ w.if-eq.true) (rw w.if-awaits_id.false at c.loop-word.invariant))
  | else-awaits_id+else-eq+then-eq-2 w ↦
      rw (w.ignored-is, w.deny_warnings-is, w.awaits_id-is, w.if-awaits_id.false)
      (after-deny _ _ _ c.args.words.now c.loop-word.word-index no_word c.loop-word-test.true (sym w.eq-else-eq.ensures ∙ w.if-eq-2.true) (rw w.if-awaits_id.false at c.loop-word.invariant))
]

pub returns-then-awaits_id-2 : goal.returns-then-awaits_id-2
returns-then-awaits_id-2 c =
    after-no-id _ _ _ c.args.words.now c.loop-word.word-index no_word (omega arith) (rw c.if-awaits_id-2.true at c.loop-word.invariant)

pub returns : goal.returns
returns c =
    after-all _ _ _ c.args.words.now c.loop-word.word-index no_word (omega arith) (rw c.if-awaits_id-2.false at c.loop-word.invariant)
