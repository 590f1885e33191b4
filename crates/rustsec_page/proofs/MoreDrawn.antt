-- One more finding with the ranges of its advisory.
use Rattle.std.proofs.Common.{◌≡◌, ◌∙◌, ◌++◌, List, [], ◌∷◌, ap, ap₂, map, sym}
use Rattle.std.proofs.lemmas.List.{map-append}
use Rattle.std.proofs.lemmas.List.Elements.{All-push, All-same}
use Rattle.rustsec_versions.specs.ranges.AcceptedRanges.{AreRangesOf}
use Rattle.rustsec_check.specs.Values.{FindingValue}
use Rattle.rustsec_page.specs.Findings.{AreDrawn, DrawnValue}

abbrev HasItsRanges : DrawnValue → Type 0
HasItsRanges d = AreRangesOf d.finding.advisory.versions d.ranges

pub more-drawn : (so_far all : List FindingValue) (f : FindingValue) (old new : List DrawnValue) (d : DrawnValue) → AreDrawn so_far old
    → d.finding ≡ f → AreRangesOf d.finding.advisory.versions d.ranges → all ≡ so_far ++ f ∷ [] → new ≡ old ++ d ∷ [] → AreDrawn all new
more-drawn so_far all f old new d h is ranges more added =
    record {
      findings_are =
          ap (map (λ (e : DrawnValue). e.finding)) added ∙ map-append (λ (e : DrawnValue). e.finding) old (d ∷ [])
          ∙ ap₂ (λ (xs : List FindingValue) (x : FindingValue). xs ++ x ∷ []) h.findings_are is ∙ sym more;
      ranges_are = All-same HasItsRanges new (old ++ d ∷ []) added (All-push HasItsRanges old d h.ranges_are ranges);
    }
