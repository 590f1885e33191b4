use Rattle.std.proofs.Common.{◌∙◌, ◌++◌, ap, append_assoc, string_bytes}
use Rattle.std.specs.Prelude.{codes}
use Rattle.rustsec_explain_output.specs.ReasonWords.{note_words, until_words}
use Rattle.rustsec_explain_output.proofs.reason_text.push_by_policy.Goals as goal

pub returns : goal.returns
returns c =
    let old = string_bytes c.args.words.now in
    let by = codes " by the policy" in
    let until = until_words c.args.entry.now.until in
    let note = note_words c.args.entry.now.reason in
    c.in_ok-push_note.ensures
    ∙ (ap (λ l. l ++ note) (c.in_ok-push_until.ensures ∙ ap (λ l. l ++ until) c.in_ok-push_str.ensures.bytes)
    ∙ (append_assoc (old ++ by) until note ∙ append_assoc old by (until ++ note)))
