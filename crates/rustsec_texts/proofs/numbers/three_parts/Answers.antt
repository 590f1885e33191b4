use Rattle.std.proofs.Common.{Some, true, refl, sym, lit<}
use Rattle.std.proofs.lemmas.Str.Pattern.{contains_char, split_parts}
use Rattle.rustsec_texts.proofs.Dashes.{more-parts, no-dash, one-part, three-parts, two-parts}
use Rattle.rustsec_texts.proofs.numbers.three_parts.Goals as goal

pub returns-in_err-first : goal.returns-in_err-first
returns-in_err-first c = rw c.from_residual.ensures (sym (one-part c.args.text.now (no-dash _ c.in_err-first.ensures.cases)))

pub returns-in_err-second : goal.returns-in_err-second
returns-in_err-second c =
    let one = split_parts 45 c.args.text.now (Some (c.in_ok-first.first, c.in_ok-first.rest)) c.in_ok-first.ensures.cases (lit< tt) in
    rw c.from_residual-in_err-second.ensures (sym (two-parts c.args.text.now _ _ one.0 one.1 (no-dash _ c.in_err-second.ensures.cases)))

pub returns-then-contains : goal.returns-then-contains
returns-then-contains c =
    let one = split_parts 45 c.args.text.now (Some (c.in_ok-first.first, c.in_ok-first.rest)) c.in_ok-first.ensures.cases (lit< tt) in
    let two = split_parts 45 c.in_ok-first.rest.now (Some (c.in_ok-second.second, c.in_ok-second.third)) c.in_ok-second.ensures.cases (lit< tt) in
    let found = (contains_char 45 c.in_ok-second.third.now true c.if-contains.ensures.cases (lit< tt)).0 refl in
    sym (more-parts c.args.text.now _ _ _ _ one.0 one.1 two.0 two.1 found.0 found.1 found.2)

pub returns : goal.returns
returns c =
    let one = split_parts 45 c.args.text.now (Some (c.in_ok-first.first, c.in_ok-first.rest)) c.in_ok-first.ensures.cases (lit< tt) in
    let two = split_parts 45 c.in_ok-first.rest.now (Some (c.in_ok-second.second, c.in_ok-second.third)) c.in_ok-second.ensures.cases (lit< tt) in
    sym (three-parts c.args.text.now _ _ _ _ one.0 one.1 two.0 two.1 (no-dash _ c.if-contains.ensures.cases))
