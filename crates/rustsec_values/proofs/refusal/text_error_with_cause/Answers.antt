use Rattle.std.proofs.Common.{◌∙◌}
use Rattle.rustsec_values.proofs.RefusedTexts.{with-reason}
use Rattle.rustsec_values.proofs.refusal.text_error_with_cause.Goals as goal

pub returns-clause-shows : goal.returns-clause-shows
returns-clause-shows c =
    with-reason _ _ _ _ c.message.result.now c.text_error-refusal.result c.with_source.result c.text_error-refusal.ensures.shows
    (λ room. absurd (cc (rw (c.kind.ensures ∙ room) at c.if-eq.ensures))) c.message.ensures c.with_source.ensures
