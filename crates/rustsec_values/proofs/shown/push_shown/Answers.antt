use Rattle.std.proofs.Common.{◌∙◌, sym, append_assoc, append-nil, rules}
use Rattle.std.proofs.lemmas.Str.{IsUtf8-past_char}
use Rattle.rustsec_values.proofs.ShownTexts.{char-left, rest-shorter, shown-empty, shown-step}
use Rattle.rustsec_values.proofs.shown.push_shown.Goals as goal

pub loop-c-preserved : goal.loop-c-preserved
loop-c-preserved c =
    let held = c.loop-c.invariant in
    let parts = c.in-Some.ensures.steps.0 in
    let step = shown-step _ _ c.in-Some.c held.0 parts in (
      IsUtf8-past_char _ _ c.in-Some.c held.0 parts,
      rw (c.in_ok-push_char.ensures, append_assoc) (rw step at held.1),
      rest-shorter _ _ c.in-Some.c _ parts held.2,
    )

pub returns-in_err-push_char-clause-none : goal.returns-in_err-push_char-clause-none
returns-in_err-push_char-clause-none c =
    let some = char-left _ _ c.in-Some.c _ c.in-Some.ensures.steps.0 c.loop-c.invariant.2 in
    search (rules, some)

pub returns-clause-ok : goal.returns-clause-ok
returns-clause-ok c = sym (append-nil _) ∙ rw (shown-empty _ c.in-None.ensures.steps.0.0) at c.loop-c.invariant.1
