-- In a list sorted by start, an interval that does not overlap its successor overlaps no later interval.
use Rattle.std.proofs.Common.{◌≡◌, false, List, [], ◌∷◌, refl, sym, ◌∙◌, inl, inr}
use Rattle.std.specs.List.{list_any}
use Rattle.std.proofs.lemmas.Bool.{and_right, cases_Bool}
use Rattle.rustsec_versions.specs.interval.Interval.{Interval, overlap, reaches}
use Rattle.rustsec_versions.specs.order.Precedence.{precedence}
use Rattle.rustsec_versions.proofs.lemmas.ranges.Adjacent.{AllAdmissible, StartsRise, earlier-reaches}
use Rattle.rustsec_versions.proofs.lemmas.acceptance.Clashes.{AllSound}
use Rattle.rustsec_versions.proofs.lemmas.requirement.Sound.{admissible-reaches}

-- what a start does not reach, no later start reaches
later-short : (i j k : Interval) → AllSound (j ∷ k ∷ []) → StartsRise (j ∷ k ∷ []) → reaches precedence j.start i.end ≡ false
    → reaches precedence k.start i.end ≡ false
later-short i j k sound rise far = elim (cases_Bool (reaches precedence k.start i.end)) [
  | inl near ↦ cc (sym far ∙ earlier-reaches j.start k.start i.end sound.0.start sound.1.0.start rise.0 near)
  | inr short ↦ short
]

-- an interval that ends before the first of some others begins overlaps none of them
pub beyond : (i j : Interval) (is : List Interval) → AllSound (j ∷ is) → StartsRise (j ∷ is) → reaches precedence j.start i.end ≡ false
    → list_any (overlap precedence i) (j ∷ is) ≡ false
beyond i j [] sound rise far = rw (and_right (reaches precedence i.start j.end) _ far) refl
beyond i j (k ∷ is) sound rise far =
    let next = later-short i j k (sound.0, (sound.1.0, tt)) (rise.0, tt) far in
    rw (and_right (reaches precedence i.start j.end) _ far) (beyond i k is sound.1 rise.1 next)

-- of two intervals that do not overlap, the one that starts first ends before the other begins
pub over-before : (i j : Interval) → AllSound (i ∷ j ∷ []) → AllAdmissible (j ∷ []) → StartsRise (i ∷ j ∷ []) → overlap precedence i j ≡ false
    → reaches precedence j.start i.end ≡ false
over-before i j sound all rise far =
    let near = earlier-reaches i.start j.start j.end sound.0.start sound.1.0.start rise.0 (admissible-reaches j all.0) in
    rw near at far
