use Rattle.rustsec_texts.proofs.FileParts.{parts_are}
use Rattle.rustsec_texts.proofs.Slices.{after_prefix-slice, cut_at-back, cut_at-front, trimmed, trimmed-end, trimmed-front, within}
use Rattle.rustsec_texts.proofs.parts.Parts.parse.Goals as goal

pub returns-in_default-clause-meaning : goal.returns-in_default-clause-meaning
returns-in_default-clause-meaning c = parts_are c.args.text.now

pub returns-in_default-cut_at_end-clause-meaning : goal.returns-in_default-cut_at_end-clause-meaning
returns-in_default-cut_at_end-clause-meaning c = parts_are c.args.text.now

pub returns-in_default-after_prefix-clause-meaning : goal.returns-in_default-after_prefix-clause-meaning
returns-in_default-after_prefix-clause-meaning c = parts_are c.args.text.now

pub returns-in_default-cut_at-clause-meaning : goal.returns-in_default-cut_at-clause-meaning
returns-in_default-cut_at-clause-meaning c = parts_are c.args.text.now

pub returns-clause-meaning : goal.returns-clause-meaning
returns-clause-meaning c = parts_are c.args.text.now

pub returns-clause-slices : goal.returns-clause-slices
returns-clause-slices c =
    let body = after_prefix-slice _ _ c.in-Some.body.now c.in-Some.ensures in
    let front = within _ _ _ (cut_at-front _ _ _ _ c.in-Some-cut_at_end.ensures) body in
    let rest = within _ _ _ (cut_at-back _ _ _ _ c.in-Some-cut_at_end.ensures) body in
    let markdown = within _ _ _ (trimmed-front _ _ c.trim_start-markdown.ensures.value) rest in
    let lines = within _ _ _ (after_prefix-slice _ _ c.in-Some-after_prefix.lines.now c.in-Some-after_prefix.ensures) markdown in
    let title = within _ _ _ (cut_at-front _ _ _ _ c.in-Some-cut_at.ensures) lines in
    let description = within _ _ _ (cut_at-back _ _ _ _ c.in-Some-cut_at.ensures) lines in (
      within _ _ _ (trimmed _ _ c.trim.ensures.value) front,
      markdown,
      within _ _ _ (trimmed-end _ _ c.trim_end.ensures.value) title,
      within _ _ _ (trimmed _ _ c.trim-2.ensures.value) description,
    )
