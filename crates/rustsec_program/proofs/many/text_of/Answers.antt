use Rattle.std.proofs.Common.{◌≡◌, ℕ, List, false, inl, inr}
use Rattle.std.proofs.lemmas.Bool.{cases_Bool}
use Rattle.std.proofs.lemmas.Str.{IsUtf8-from_is_utf8, is_utf8-from_IsUtf8}
use Rattle.std.specs.Str.{IsUtf8, is_utf8}
use Rattle.rustsec_values.proofs.Refusals.{refusal}
use Rattle.rustsec_program.proofs.many.text_of.Goals as goal

is-not : (text : List ℕ) → ¬ (IsUtf8 text) → is_utf8 text ≡ false
is-not text never = elim (cases_Bool (is_utf8 text)) [
  | inl valid ↦ absurd (never (IsUtf8-from_is_utf8 text valid))
  | inr invalid ↦ invalid
]

pub returns-in-Ok-clause-ok : goal.returns-in-Ok-clause-ok
returns-in-Ok-clause-ok c = (c.in-Ok.ensures.cases.0, is_utf8-from_IsUtf8 _ c.in-Ok.ensures.cases.1)

pub returns-in-Err-clause-err : goal.returns-in-Err-clause-err
returns-in-Err-clause-err c = refusal _ c.not_utf8_error.result (is-not _ c.in-Err.ensures.cases.0) c.not_utf8_error.ensures
