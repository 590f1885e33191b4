-- The outputs of `affected` and `ranges`, by what is parsed of the input.
use Rattle.std.proofs.Common.{◌≡◌, ℕ, List, Option, Some, None, sym, ap, ◌∙◌, subst}
use Rattle.rustsec_commands.specs.Output.{AreRangeLines, AreRangeLinesOr, IsRangesOutput, Output, affected_output, malformed, verdicts, verdicts_or}
use Rattle.rustsec_commands.specs.input.Input.{Input, first_malformed, input_of, says}
use Rattle.rustsec_commands.specs.declared.input.InputKind.TheVariants as input_kind

-- the output of `ranges`, if no line is malformed
pub ranges-given : (input : List ℕ) (a : Input) (o : Output) → first_malformed (says input_kind.Ranges input) ≡ None → a ≡ input_of (says input_kind.Ranges input)
    → AreRangeLines a.lists o → IsRangesOutput input o
ranges-given input a o e h t =
    subst (λ (x : Option ℕ). AreRangeLinesOr x ((input_of (says input_kind.Ranges input)).lists) o) (sym e) (subst (λ (b : Input). AreRangeLines b.lists o) h t)

-- the output of `ranges`, if a line is malformed
pub ranges-malformed : (input : List ℕ) (place : ℕ) (o : Output) → first_malformed (says input_kind.Ranges input) ≡ Some place → o ≡ malformed place → IsRangesOutput input o
ranges-malformed input place o e h = subst (λ (x : Option ℕ). AreRangeLinesOr x ((input_of (says input_kind.Ranges input)).lists) o) (sym e) h

-- the output of `affected`, if no line is malformed
pub affected-given : (input : List ℕ) (a : Input) → first_malformed (says input_kind.Verdicts input) ≡ None → a ≡ input_of (says input_kind.Verdicts input)
    → affected_output input ≡ verdicts a
affected-given input a e h = ap (λ (x : Option ℕ). verdicts_or x (input_of (says input_kind.Verdicts input))) e ∙ ap verdicts (sym h)

pub affected-malformed : (input : List ℕ) (place : ℕ) → first_malformed (says input_kind.Verdicts input) ≡ Some place → affected_output input ≡ malformed place
affected-malformed input place e = ap (λ (x : Option ℕ). verdicts_or x (input_of (says input_kind.Verdicts input))) e
