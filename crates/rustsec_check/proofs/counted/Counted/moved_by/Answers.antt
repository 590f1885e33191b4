use Rattle.std.proofs.Common.{◌≡◌, ◌∙◌, ◌++◌, Bor, List, ap, arith, length, map, option_map, rules, sym}
use Rattle.std.proofs.lemmas.Grind.{common_steps}
use Rattle.std.proofs.lemmas.List.{length-map}
use Rattle.semver.specs.Identifiers.{parts_of}
use Rattle.rustsec_texts.specs.Ids.{IdValue}
use Rattle.rustsec_advisory.specs.declared.advisory.Advisory.{Advisory}
use Rattle.rustsec_report.specs.Report.{is_among}
use Rattle.rustsec_check.specs.LeastFree.{AreRangesOfAll}
use Rattle.rustsec_check.specs.Updates.{IsMover, in_force, lists_of}
use Rattle.rustsec_check.proofs.Movers.{none-ignored}
use Rattle.rustsec_check.proofs.counted.Counted.moved_by.Goals as goal

pub returns-then-len-clause-ok : goal.returns-then-len-clause-ok
returns-then-len-clause-ok c = λ valid.
    let now : Bor Advisory → Advisory = λ a. a.now in
    let v = parts_of c.args.version.now in
    let answer = option_map parts_of c.args.least_free.now in
    let as_many : length c.self.inside.in_force.items ≡ length c.self.inside.others.items = grind (arith, common_steps) in
    let whole = sym (ap length c.self.invariant) ∙ (length-map c.self.inside.in_force.items now ∙ (as_many ∙ sym (length-map c.self.inside.others.items now))) in
    let nothing = ap (map (λ (i : Bor IdValue). i.now)) c.new.ensures.items in
    rw nothing (rw (← c.self.view_is)
    (none-ignored (λ a. is_among c.self.inside.ids.now a.metadata.id)
    (IsMover c.self.inside.ids.now (lists_of (map now c.args.own.now ++ in_force c.self.inside.ids.now (map now c.self.inside.others.items))) v answer)
    (λ a h. h.0) (map now c.self.inside.others.items) whole))

pub returns-clause-ok : goal.returns-clause-ok
returns-clause-ok c = λ valid.
    let now : Bor Advisory → Advisory = λ a. a.now in
    let kept : c.as_slice.result.now ≡ c.self.inside.in_force.items = search rules in
    let others : c.as_slice-3.result.now ≡ c.self.inside.others.items = search rules in
    let own = map now c.args.own.now in
    let all = lists_of (own ++ in_force c.self.inside.ids.now (map now c.self.inside.others.items)) in
    let same = ap (λ (xs : List Advisory). lists_of (own ++ xs)) (ap (map now) kept ∙ c.self.invariant) in
    let of : AreRangesOfAll all c.as_slice-2.result.now = search rules in
    rw (← c.self.view_is) (rw others at (c.movers.ensures.ok all of valid))
