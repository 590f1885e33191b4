-- A check has one page: two texts that meet the definition are equal.
use Rattle.std.proofs.Common.{◌≡◌, ◌∙◌, ◌++◌, ℕ, List, [], ◌∷◌, ap, map, refl, subst, sym}
use Rattle.std.specs.List.{All}
use Rattle.std.proofs.lemmas.List.Elements.{All-head, All-tail}
use Rattle.std.proofs.lemmas.List.Sorted.{IsPermutation-refl}
use Rattle.rustsec_versions.specs.ranges.AcceptedRanges.{AreRangesOf}
use Rattle.rustsec_versions.specs.ranges.Ranges.{Range}
use Rattle.rustsec_versions.proofs.lemmas.ranges.Agreement.{kept-order}
use Rattle.rustsec_check.specs.Values.{FindingValue}
use Rattle.rustsec_check_output.specs.CheckTree.{WrittenValue}
use Rattle.rustsec_page.specs.Findings.{AreDrawn, DrawnValue}
use Rattle.rustsec_page.specs.Page.{IsPage, page}
use Rattle.rustsec_page.specs.Pieces.{text_of}

-- the ranges are those of the finding's advisory
abbrev pub HasItsRanges : DrawnValue → Type 0
HasItsRanges d = AreRangesOf d.finding.advisory.versions d.ranges

one-drawn : (d e : DrawnValue) → d.finding ≡ e.finding → HasItsRanges d → HasItsRanges e → d ≡ e
one-drawn d e same h k =
    let ls = d.finding.advisory.versions in
    let its : AreRangesOf ls e.ranges = subst (λ (f : FindingValue). AreRangesOf f.advisory.versions e.ranges) (sym same) k in
    let ranges : d.ranges ≡ e.ranges = sym (kept-order ls d.ranges h ls e.ranges (IsPermutation-refl (ls.patched ++ ls.unaffected)) its.ranges) in
    λ i. record { finding = same i; ranges = ranges i }

one-list : (ds es : List DrawnValue) → map (λ (d : DrawnValue). d.finding) ds ≡ map (λ (d : DrawnValue). d.finding) es → All HasItsRanges ds
    → All HasItsRanges es → ds ≡ es
one-list [] [] same h k = refl
one-list [] (e ∷ es) same h k = cc same
one-list (d ∷ ds) [] same h k = cc same
one-list (d ∷ ds) (e ∷ es) same h k =
    let head : d.finding ≡ e.finding = cc same in
    let tail : map (λ (d : DrawnValue). d.finding) ds ≡ map (λ (d : DrawnValue). d.finding) es = cc same in
    let first : d ≡ e = one-drawn d e head (All-head HasItsRanges d ds h) (All-head HasItsRanges e es k) in
    let rest : ds ≡ es = one-list ds es tail (All-tail HasItsRanges d ds h) (All-tail HasItsRanges e es k) in
    λ i. first i ∷ rest i

pub page_once : (w : WrittenValue) (t u : List ℕ) → IsPage w t → IsPage w u → t ≡ u
page_once w t u h k =
    let same : h.drawn ≡ k.drawn
    = one-list h.drawn k.drawn (h.are_drawn.findings_are ∙ sym k.are_drawn.findings_are) h.are_drawn.ranges_are k.are_drawn.ranges_are in
    h.is ∙ (ap (λ ds. text_of (page w ds)) same ∙ sym k.is)
