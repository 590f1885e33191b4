use Rattle.std.proofs.Common.{◌≡◌, ◌∙◌, ◌==◌, ◌∷◌, [], ℕ, None, Some, ap, get_or, length, refl, sym}
use Rattle.std.proofs.lemmas.Iterator.Consumers.{YieldsList-at, YieldsList-end, YieldsList-from_enumerate, YieldsList-turn}
use Rattle.std.proofs.lemmas.Iterator.Splits.{YieldsList-from_slice_split}
use Rattle.std.proofs.lemmas.List.{take_all}
use Rattle.std.proofs.Math.ListN.{length-append}
use Rattle.rustsec_commands.specs.input.Input.{input_of, says}
use Rattle.rustsec_commands.specs.input.Line.{said_for}
use Rattle.rustsec_commands.specs.input.Views.{line_view}
use Rattle.rustsec_commands.proofs.lemmas.input.Turns.{few-lines, input-more, malformed-here, malformed-nowhere, next-line, no-line, none-more}
use Rattle.rustsec_commands.proofs.input.parse.Goals as goal

pub returns-in-None-said_for : goal.returns-in-None-said_for
returns-in-None-said_for c =
    let parts = YieldsList-from_slice_split _ (λ b. b == 10) c.args.input.now c.split.ensures.rest c.split.ensures.done c.split.ensures.closure (λ x b q k. (refl, k.called.met.said-raw.1.1.1 ∙ ap (λ (z : ℕ). z == 10) k.shows)) in
    let whole = YieldsList-at c.into_iter-place-iterator.ensures.into_iter_gives
    (YieldsList-from_enumerate (YieldsList-at c.enumerate-place-items.ensures.source parts) c.enumerate-place-items.ensures.count) in
    let (low, at) = YieldsList-turn whole c.loop-place.yielded _ c.loop-place.yielded_by _ _ _ c.in-Some.is c.next.ensures.steps in
    let said = c.said_for.ensures ∙ ap (said_for c.args.kind) c.in_ok-line_says.ensures in
    let line = next-line c.args.kind c.args.input.now (length c.loop-place.yielded) c.in-Some.place c.in-Some.line.now _ low at said in
    let lines = says c.args.kind c.args.input.now in
    let here : get_or lines (length c.loop-place.yielded) None ≡ None = line.1.1 ∙ rw c.in-None-said_for.is refl in (
      malformed-here lines (length c.loop-place.yielded) line.1.0 c.loop-place.invariant.none_yet here ∙ ap (λ (i : ℕ). Some i) (sym line.0),
      rw line.0 (few-lines c.args.kind c.args.input.now (length c.loop-place.yielded) low),
    )

pub loop-place-preserved : goal.loop-place-preserved
loop-place-preserved c =
    let parts = YieldsList-from_slice_split _ (λ b. b == 10) c.args.input.now c.split.ensures.rest c.split.ensures.done c.split.ensures.closure (λ x b q k. (refl, k.called.met.said-raw.1.1.1 ∙ ap (λ (z : ℕ). z == 10) k.shows)) in
    let whole = YieldsList-at c.into_iter-place-iterator.ensures.into_iter_gives
    (YieldsList-from_enumerate (YieldsList-at c.enumerate-place-items.ensures.source parts) c.enumerate-place-items.ensures.count) in
    let (low, at) = YieldsList-turn whole c.loop-place.yielded _ c.loop-place.yielded_by _ _ _ c.in-Some.is c.next.ensures.steps in
    let said = c.said_for.ensures ∙ ap (said_for c.args.kind) c.in_ok-line_says.ensures in
    let line = next-line c.args.kind c.args.input.now (length c.loop-place.yielded) c.in-Some.place c.in-Some.line.now _ low at said in
    let lines = says c.args.kind c.args.input.now in
    let here : get_or lines (length c.loop-place.yielded) None ≡ Some (line_view c.in-Some-said_for.said) = line.1.1 ∙ rw c.in-Some-said_for.is refl in
    let more = length-append c.loop-place.yielded ((c.in-Some.place, c.in-Some.line) ∷ []) in
    record {
      none_yet = rw more (none-more lines (length c.loop-place.yielded) _ c.loop-place.invariant.none_yet here);
      so_far = c.in_ok-add-in-Some-said_for.ensures ∙ rw (c.loop-place.invariant.so_far, more) (sym (input-more lines (length c.loop-place.yielded) _ line.1.0 here));
    }

pub returns : goal.returns
returns c =
    let parts = YieldsList-from_slice_split _ (λ b. b == 10) c.args.input.now c.split.ensures.rest c.split.ensures.done c.split.ensures.closure (λ x b q k. (refl, k.called.met.said-raw.1.1.1 ∙ ap (λ (z : ℕ). z == 10) k.shows)) in
    let whole = YieldsList-at c.into_iter-place-iterator.ensures.into_iter_gives
    (YieldsList-from_enumerate (YieldsList-at c.enumerate-place-items.ensures.source parts) c.enumerate-place-items.ensures.count) in
    let end = YieldsList-end whole c.loop-place.yielded _ c.loop-place.yielded_by _ _ c.in-None.is c.next.ensures.steps in
    let all = no-line c.args.kind c.args.input.now (length c.loop-place.yielded) end.1 in (
      malformed-nowhere (says c.args.kind c.args.input.now) (length c.loop-place.yielded) all c.loop-place.invariant.none_yet,
      c.loop-place.invariant.so_far ∙ ap input_of (take_all (length c.loop-place.yielded) (says c.args.kind c.args.input.now) all),
    )
