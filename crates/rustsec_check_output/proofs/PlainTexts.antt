-- A text in which no byte has an escape is written as it is, between quotation marks.
use Rattle.std.proofs.Common.{◌≡◌, ◌++◌, ◌==◌, ◌||◌, ℕ, List, [], ◌∷◌, ap, false, flat_map, refl}
use Rattle.std.specs.List.{list_any}
use Rattle.std.specs.Prelude.{nat_lt}
use Rattle.std.proofs.lemmas.Bool.{eqb-false, ltb-false, or_parts}
use Rattle.json.specs.Print.{escape_byte}
use Rattle.json.proofs.Printed.Strings.{escape_byte_plain}
use Rattle.rustsec_check_output.specs.CheckJson.{is_escaped, quoted}

plain_byte : (x : ℕ) → is_escaped x ≡ false → escape_byte x ≡ x ∷ []
plain_byte x h =
    let parts = or_parts (nat_lt x 32 || x == 34) (x == 92) h in
    let others = or_parts (nat_lt x 32) (x == 34) parts.0 in
    escape_byte_plain x (eqb-false x 34 others.1) (eqb-false x 92 parts.1) (ltb-false x 32 others.0)

plain_text : (text : List ℕ) → list_any is_escaped text ≡ false → flat_map escape_byte text ≡ text
plain_text [] h = refl
plain_text (x ∷ xs) h =
    let parts = or_parts (is_escaped x) (list_any is_escaped xs) h in
    λ i. plain_byte x parts.0 i ++ plain_text xs parts.1 i

pub quoted_plain : (text : List ℕ) → list_any is_escaped text ≡ false → quoted text ≡ 34 ∷ (text ++ 34 ∷ [])
unfolding quoted
quoted_plain text h = ap (λ t. 34 ∷ (t ++ 34 ∷ [])) (plain_text text h)
