use Rattle.std.proofs.Common.{Some, lit<}
use Rattle.std.proofs.lemmas.Str.Pattern.{split_parts, strip_suffix_char}
use Rattle.rustsec_texts.proofs.Cutting.{after_prefix-is, cut_at-backquote}
use Rattle.rustsec_texts.proofs.parts.cut_at_backquote.Goals as goal

pub returns : goal.returns
returns c =
    let parts = split_parts 96 c.args.body.now (Some (c.in_ok-before.before, c.in_ok-before.after)) c.in_ok-before.ensures.cases (lit< tt) in
    let line = strip_suffix_char 10 c.in_ok-before.before.now (Some c.in_ok-front.front) c.in_ok-front.ensures.cases (lit< tt) in
    cut_at-backquote c.args.body.now c.in_ok-before.before.now c.in_ok-before.after.now c.in_ok-front.front.now c.in_ok-rest.rest.now parts.0 parts.1 line (after_prefix-is _ _ _ c.in_ok-rest.ensures)
