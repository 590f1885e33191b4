use Rattle.std.proofs.Common.{◌∙◌, ◌++◌, [], Bor, ap, map, sym, take}
use Rattle.rustsec_check.specs.Values.{FindingValue}
use Rattle.rustsec_sarif.specs.SarifTree.{firsts, if_first}
use Rattle.rustsec_sarif.proofs.OnceEach.{firsts_step}
use Rattle.rustsec_sarif.proofs.firsts.firsts.Goals as goal

pub loop-finding-init : goal.loop-finding-init
unfolding firsts
loop-finding-init c = ap (λ xs. map (λ (f : Bor FindingValue). f.now) xs) c.new-first.ensures.items

pub loop-finding-preserved : goal.loop-finding-preserved
loop-finding-preserved c =
    let i = c.loop-finding.finding-index in
    let before = firsts [] (take i c.args.findings.now) in
    let step = firsts_step c.args.findings.now i c.finding-item.result c.loop-finding-test.true in
    rw (c.in_ok-push_first.ensures, c.loop-finding.invariant)
    (sym (step ∙ ap (λ f. before ++ if_first before f) (sym c.finding-item.is)))
