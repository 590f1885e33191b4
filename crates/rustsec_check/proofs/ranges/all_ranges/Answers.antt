use Rattle.std.proofs.Common.{◌∙◌, ◌++◌, ◌∷◌, [], ap, map, subst, sym, take}
use Rattle.std.proofs.lemmas.List.{map_more}
use Rattle.rustsec_check.specs.LeastFree.{AreRangesOfAll}
use Rattle.rustsec_check.proofs.ranges.all_ranges.Goals as goal

pub loop-versions-preserved : goal.loop-versions-preserved
loop-versions-preserved c =
    let so_far = map (λ v. v.now) (take c.loop-versions.versions-index c.args.lists.now) in
    let more = map_more (λ v. v.now) c.args.lists.now c.loop-versions.versions-index c.versions-item.result c.loop-versions-test.true in
    subst (λ ls. AreRangesOfAll ls c.add_ranges.new.all.items) (sym (more ∙ ap (λ v. so_far ++ v.now ∷ []) (sym c.versions-item.is)))
    (c.in_ok-add_ranges.ensures.ok so_far c.loop-versions.invariant)
