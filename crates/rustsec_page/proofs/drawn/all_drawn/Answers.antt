use Rattle.std.proofs.Common.{◌≡◌, ◌∙◌, ◌+◌, ◌++◌, ◌∷◌, [], ap, rules, sym, take}
use Rattle.std.proofs.lemmas.List.{take_more}
use Rattle.rustsec_page.proofs.MoreDrawn.{more-drawn}
use Rattle.rustsec_page.proofs.drawn.all_drawn.Goals as goal

pub loop-finding-preserved : goal.loop-finding-preserved
loop-finding-preserved c =
    let findings = c.args.findings.now in
    let i = c.loop-finding.finding-index in
    let f = c.finding-item.result in
    let old = c.loop-finding.drawn.items in
    let more : take (i + 1) findings ≡ take i findings ++ f ∷ [] =
    take_more findings i f c.loop-finding-test.true ∙ ap (λ x. take i findings ++ x ∷ []) (sym c.finding-item.is) in
    let added : c.push.new.self.items ≡ old ++ c.in_ok-one.one ∷ [] = search rules in
    more-drawn (take i findings) (take (i + 1) findings) f old c.push.new.self.items c.in_ok-one.one c.loop-finding.invariant
    c.in_ok-one.ensures.finding c.in_ok-one.ensures.ranges more added
