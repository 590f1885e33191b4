use Rattle.std.proofs.Common.{◌∙◌, ap, map, sym}
use Rattle.std.proofs.lemmas.List.Sorted.{IsPermutation-map}
use Rattle.semver.specs.Identifiers.{parts_of}
use Rattle.rustsec_osv_rules.specs.evaluation.Event.{event_view}
use Rattle.rustsec_osv_rules.specs.evaluation.Range.{is_before_limits, say_in_order}
use Rattle.rustsec_osv_rules.proofs.evaluation.Sorted.{and-no, and-yes, sorted-rise}
use Rattle.rustsec_osv_rules.proofs.evaluation.range.says_affected.Goals as goal
use Rattle.rustsec_osv_rules.proofs.evaluation.range.says_affected.Goals.{then-within, else-within}

pub returns : goal.returns
returns c =
    let v = parts_of c.args.version.now in
    let within = c.is_before_limits-within.ensures ∙ ap (λ xs. is_before_limits (map event_view xs) v) c.deref.ensures.value in
    record {
      ordered = map event_view c.sort.new.events.items;
      same = IsPermutation-map event_view _ _ c.sort.ensures.same;
      rise = sorted-rise c.sort.new.events.items c.in_ok-sort.ensures.sorted;
      is = elim c.if-within.branch [
        | then-within w ↦ and-yes _ _ _ (sym within ∙ w.if-within.true)
            (w.result-is ∙ (w.say_in_order.ensures ∙ ap (λ xs. say_in_order (map event_view xs) v) w.deref-then-within.ensures.value))
        | else-within w ↦ and-no _ _ _ (sym within ∙ w.if-within.false) (w.result-is ∙ w.if-within.false)
      ];
    }
