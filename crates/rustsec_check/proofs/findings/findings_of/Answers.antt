use Rattle.std.proofs.Common.{◌≡◌, ◌∙◌, ◌+◌, ◌++◌, ◌∷◌, [], ap, false, rules, sym, take, true}
use Rattle.std.proofs.lemmas.List.{take_more}
use Rattle.rustsec_check.specs.Pairs.{is_ignored}
use Rattle.rustsec_check.proofs.MoreFindings.{no-finding, one-finding}
use Rattle.rustsec_check.proofs.findings.findings_of.Goals as goal
use Rattle.rustsec_check.proofs.findings.findings_of.Goals.{else-not-is_ignored, then-not-is_ignored+in_ok-facts+in_ok-finding+in_ok-map_err}

pub loop-pair-preserved : goal.loop-pair-preserved
loop-pair-preserved c =
    let s = c.args.subject.now in
    let pairs = c.args.found.now in
    let i = c.loop-pair.pair-index in
    let f = c.pair-item.result in
    let old = c.loop-pair.findings.items in
    let new = c.if-not-is_ignored.findings.items in
    let more : take (i + 1) pairs ≡ take i pairs ++ f ∷ [] =
    take_more pairs i f c.loop-pair-test.true ∙ ap (λ x. take i pairs ++ x ∷ []) (sym c.pair-item.is) in
    elim c.if-not-is_ignored.branch [
      | then-not-is_ignored+in_ok-facts+in_ok-finding+in_ok-map_err w ↦
          let kept : is_ignored s.settings.ignore f ≡ false = search rules in
          let added : new ≡ old ++ w.in_ok-finding.finding ∷ [] = search rules in
          record {
            findings = one-finding s (take i pairs) (take (i + 1) pairs) f old new w.in_ok-finding.finding c.loop-pair.invariant.findings kept
                w.in_ok-finding.ensures.pair w.in_ok-finding.ensures.ok more added;
            last = search rules;
          }
      | else-not-is_ignored w ↦
          let off : is_ignored s.settings.ignore f ≡ true = search rules in
          let same : new ≡ old = search rules in
          record {
            findings = no-finding s (take i pairs) (take (i + 1) pairs) f old new c.loop-pair.invariant.findings off more same;
            last = search rules;
          }
    ]
