-- The command `ranges` has one output only for an input.
use Rattle.std.proofs.Common.{◌≡◌, ◌++◌, ℕ, List, Option, Some, None, sym, ap, ◌∙◌, inl, inr}
use Rattle.std.specs.Prelude.{flat_map}
use Rattle.std.proofs.lemmas.Bool.{cases_Bool}
use Rattle.std.proofs.lemmas.List.Sorted.{IsPermutation-refl}
use Rattle.rustsec_versions.specs.acceptance.Lists.{Lists, accepted}
use Rattle.rustsec_versions.specs.ranges.Ranges.{Range}
use Rattle.rustsec_versions.proofs.lemmas.ranges.Agreement.{ranges-one}
use Rattle.rustsec_commands.specs.input.Input.{first_malformed, input_of, says}
use Rattle.rustsec_commands.specs.Output.{AreRangeLines, AreRangeLinesOr, IsRangesOutput, Output, range_line}
use Rattle.rustsec_commands.specs.declared.input.InputKind.TheVariants as input_kind

lines-one : (ls : Lists) (o p : Output) → AreRangeLines ls o → AreRangeLines ls p → p ≡ o
lines-one ls o p h k = elim (cases_Bool (accepted ls)) [
  | inl fine ↦
      let (rs, (ranges, text)) = h.lines fine in
      let (us, (others, other)) = k.lines fine in
      let same = ranges-one ls ls rs us (IsPermutation-refl (ls.patched ++ ls.unaffected)) ranges others in
      other ∙ ap (λ (l : List Range). record { text = flat_map range_line l; status = 0 }) same ∙ sym text
  | inr refused ↦ k.refused refused ∙ sym (h.refused refused)
]

one-of : (malformed : Option ℕ) (ls : Lists) (o p : Output) → AreRangeLinesOr malformed ls o → AreRangeLinesOr malformed ls p → p ≡ o
one-of (Some place) ls o p h k = k ∙ sym h
one-of None ls o p h k = lines-one ls o p h k

pub one-output : (input : List ℕ) (o p : Output) → IsRangesOutput input o → IsRangesOutput input p → p ≡ o
one-output input o p h k = one-of (first_malformed (says input_kind.Ranges input)) ((input_of (says input_kind.Ranges input)).lists) o p h k
