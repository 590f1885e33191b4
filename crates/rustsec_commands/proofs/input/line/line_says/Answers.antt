use Rattle.std.proofs.Common.{◌≡◌, List, ℕ, length, false, refl, sym, ◌∙◌, inl, inr, None, ap}
use Rattle.std.proofs.lemmas.Bool.{cases_Bool}
use Rattle.std.proofs.lemmas.Str.{IsUtf8-from_is_utf8, is_utf8-from_IsUtf8}
use Rattle.std.specs.Str.{IsUtf8, is_utf8}
use Rattle.std.specs.Prelude.{◌==◌}
use Rattle.rustsec_commands.specs.input.Line.{by_word, line_says, text_says}
use Rattle.rustsec_commands.proofs.input.line.line_says.Goals as goal

text_says-utf8 : (text : List ℕ) → (length text == 0) ≡ false → IsUtf8 text → text_says text ≡ by_word text
text_says-utf8 text some utf8 = rw (some, is_utf8-from_IsUtf8 text utf8) refl

text_says-other : (text : List ℕ) → (length text == 0) ≡ false → ¬ (IsUtf8 text) → text_says text ≡ None
text_says-other text some never = elim (cases_Bool (is_utf8 text)) [
  | inl valid ↦ absurd (never (IsUtf8-from_is_utf8 text valid))
  | inr invalid ↦ rw (some, invalid) refl
]

pub returns-in-Ok : goal.returns-in-Ok
returns-in-Ok c =
    let some : (length c.without_return-text.result.now == 0) ≡ false = sym c.is_empty.ensures ∙ c.if-is_empty.false in
    let says = text_says-utf8 c.without_return-text.result.now some c.in-Ok.ensures.cases.1 in
    let whole : line_says c.args.line.now ≡ by_word c.in-Ok.text.now =
    ap text_says (sym c.without_return-text.ensures) ∙ says ∙ ap by_word (sym c.in-Ok.ensures.cases.0) in
    rw whole c.by_word.ensures

pub returns-in-Err : goal.returns-in-Err
returns-in-Err c =
    let some : (length c.without_return-text.result.now == 0) ≡ false = sym c.is_empty.ensures ∙ c.if-is_empty.false in
    let says = text_says-other c.without_return-text.result.now some c.in-Err.ensures.cases.0 in
    rw c.without_return-text.ensures at (sym says)
