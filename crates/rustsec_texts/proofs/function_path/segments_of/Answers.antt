use Rattle.std.proofs.Common.{◌∙◌, [], IsCharBoundary, IsUtf8, append-nil, subst, sym}
use Rattle.std.proofs.lemmas.Str.{IsUtf8-drop}
use Rattle.std.proofs.lemmas.Result.{err_from_is_err_and}
use Rattle.rustsec_values.proofs.Refusals.{refused_by}
use Rattle.rustsec_texts.proofs.Colons.{cut-found, each-more, identifier-given, last-cut, one-more, one-refused}
use Rattle.rustsec_texts.proofs.function_path.segments_of.Goals as goal

pub returns-in_err-from_str-clause-err : goal.returns-in_err-from_str-clause-err
returns-in_err-from_str-clause-err c =
    let f = c.in-Some.ensures.cases in
    let cut = cut-found c.loop-segment.rest.now c.in-Some.segment.now c.in-Some.after.now f.0 f.1 f.2.0 f.2.1.split f.3 f.4 in
    let stop = one-refused c.args.text.now c.loop-segment.segments c.loop-segment.rest.now c.in-Some.segment.now _ c.loop-segment.invariant.1 cut in
    let p = err_from_is_err_and c.from_residual.result c.from_residual.ensures.1 in
    rw (p.1, p.2) (refused_by _ c.in_err-from_str.field-0.0 stop c.in_err-from_str.ensures.err)

pub loop-segment-preserved : goal.loop-segment-preserved
loop-segment-preserved c =
    let f = c.in-Some.ensures.cases in
    let cut = cut-found c.loop-segment.rest.now c.in-Some.segment.now c.in-Some.after.now f.0 f.1 f.2.0 f.2.1.split f.3 f.4 in
    let id = identifier-given c.in-Some.segment.now _ c.in_ok-from_str.ensures.ok in (
      subst IsUtf8 (sym f.4) (IsUtf8-drop c.loop-segment.rest.now f.1 c.loop-segment.invariant.0 (subst (IsCharBoundary c.loop-segment.rest.now) (sym f.2.1.ends) f.2.1.after)),
      one-more c.args.text.now c.loop-segment.segments c.loop-segment.rest.now c.in-Some.segment.now _ _ _ c.loop-segment.invariant.1 cut id.0 c.in_ok-push.ensures.ok,
      each-more c.loop-segment.segments c.in-Some.segment.now _ _ c.loop-segment.invariant.2 c.in_ok-from_str.ensures.ok c.in_ok-push.ensures.ok,
    )

pub returns-in_err-from_str-2-clause-err : goal.returns-in_err-from_str-2-clause-err
returns-in_err-from_str-2-clause-err c =
    let cut = last-cut c.loop-segment.rest.now c.in_default.ensures.cases in
    let stop = one-refused c.args.text.now c.loop-segment.segments c.loop-segment.rest.now c.loop-segment.rest.now [] c.loop-segment.invariant.1 cut in
    let p = err_from_is_err_and c.from_residual-in_err-from_str-2.result c.from_residual-in_err-from_str-2.ensures.1 in
    rw (p.1, p.2) (refused_by _ c.in_err-from_str-2.field-0.0 stop c.in_err-from_str-2.ensures.err)

pub returns-clause-ok : goal.returns-clause-ok
returns-clause-ok c =
    let cut = last-cut c.loop-segment.rest.now c.in_default.ensures.cases in
    let id = identifier-given c.loop-segment.rest.now _ c.in_ok-from_str-2.ensures.ok in
    sym (one-more c.args.text.now c.loop-segment.segments c.loop-segment.rest.now c.loop-segment.rest.now [] _ c.push-2.new.self c.loop-segment.invariant.1 cut id.0 c.in_ok-push-2.ensures.ok ∙ append-nil c.push-2.new.self)
