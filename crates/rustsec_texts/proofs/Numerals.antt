-- `parse` answers the number of the definitions; bounds on the value of digits.
use Rattle.std.proofs.Common.{◌≡◌, ℕ, ◌<◌, ◌^◌, Bool, true, false, ◌&&◌, List, [], ◌∷◌, length, Option, Some, None, Result, Ok, Err, SomeIff, IfSome, nat_lt, refl, sym, ap, ◌∙◌, arith, subst}
use Rattle.std.proofs.lemmas.Bool.{and_from, and_parts, lt-ltb, ltb-true}
use Rattle.std.proofs.lemmas.Str.Parse.{IsNumeralModel, digits_value_short, numerals_by_value, tells_all_ascii_digits, without_leading_plus_none}
use Rattle.std.specs.Char.{is_ascii_digit}
use Rattle.std.specs.List.{list_all}
use Rattle.std.specs.Str.{all_ascii_digits}
use Rattle.std.specs.Str.Parse.{IsNumeral, ParsesUnsigned, digits_value, without_leading_plus}
use Rattle.std.specs.Result.{result_ok}
use Rattle.rustsec_values.specs.Reading.{only_if}
use Rattle.rustsec_texts.specs.Numbers.{number_of, numeral_of}

-- std's test for digits is that of the definition
all-digits : (ds : List ℕ) → list_all is_ascii_digit ds ≡ all_ascii_digits ds
all-digits [] = refl
all-digits (d ∷ ds) = ap (λ t. is_ascii_digit d && t) (all-digits ds)

model : IsNumeralModel (λ ds. all_ascii_digits ds ≡ true) (digits_value 10)
model = numerals_by_value (λ ds. all_ascii_digits ds ≡ true) tells_all_ascii_digits

-- whether digits make a number of 32 bits
abbrev fits : List ℕ → Bool
fits ds = nat_lt 0 (length ds) && (list_all is_ascii_digit ds && nat_lt (digits_value 10 ds) (2 ^ 32))

fits-numeral : (ds : List ℕ) → fits ds ≡ true → IsNumeral 10 ds × (digits_value 10 ds < 2 ^ 32)
fits-numeral ds h =
    let (some, rest) = and_parts (nat_lt 0 (length ds)) _ h in
    let (digits, low) = and_parts (list_all is_ascii_digit ds) _ rest in
    ((ltb-true 0 (length ds) some, model.to ds (sym (all-digits ds) ∙ digits)), ltb-true _ (2 ^ 32) low)

numeral-fits : (ds : List ℕ) → IsNumeral 10 ds × (digits_value 10 ds < 2 ^ 32) → fits ds ≡ true
numeral-fits ds h =
    and_from (nat_lt 0 (length ds)) _ (lt-ltb 0 (length ds) h.0.0)
    (and_from (list_all is_ascii_digit ds) _ (all-digits ds ∙ model.from ds h.0.1) (lt-ltb _ (2 ^ 32) h.1))

only-yes : {A : Type 0} (b : Bool) (o : Option A) → b ≡ true → only_if b o ≡ o
only-yes true o h = refl
only-yes false o h = cc h

only-no : {A : Type 0} (b : Bool) (o : Option A) → (b ≡ true → ⊥) → only_if b o ≡ None
only-no true o h = absurd (h refl)
only-no false o h = refl

-- what `parse` answers
pub parsed : (ds : List ℕ) (r : Option ℕ) → SomeIff r (IsNumeral 10 ds × (digits_value 10 ds < 2 ^ 32)) (digits_value 10 ds) → r ≡ numeral_of ds
parsed ds None h = sym (only-no (fits ds) _ (λ k. h (fits-numeral ds k)))
parsed ds (Some x) h = ap Some h.1 ∙ sym (only-yes (fits ds) _ (numeral-fits ds h.0))

-- likewise, for the answer of `parse` as an option
pub parsed-ok : {E : Type 0} (bs : List ℕ) (r : Result ℕ E) → ParsesUnsigned 32 10 bs r → (o : Option ℕ) → o ≡ result_ok r → o ≡ number_of bs
parsed-ok bs (Ok x) h o e = e ∙ parsed (without_leading_plus bs) (Some x) h
parsed-ok bs (Err x) h o e = e ∙ parsed (without_leading_plus bs) None h

-- digits have no plus in front
no-plus : (ds : List ℕ) → all_ascii_digits ds ≡ true → without_leading_plus ds ≡ ds
no-plus [] h = refl
no-plus (d ∷ ds) h = without_leading_plus_none (d ∷ ds) (λ e. let k = tells_all_ascii_digits.parts d ds h in absurd (omega (arith, k, e)))

pub digits-number : (ds : List ℕ) → list_all is_ascii_digit ds ≡ true → number_of ds ≡ numeral_of ds
digits-number ds h = ap numeral_of (no-plus ds (sym (all-digits ds) ∙ h))

-- digits make a number below ten to the power of their count
pub digits-short : (ds : List ℕ) (count : ℕ) → length ds ≡ count → list_all is_ascii_digit ds ≡ true → (r : Option ℕ) → r ≡ number_of ds → IfSome r (λ n. n < 10 ^ count)
digits-short ds count l h r e =
    let e' : r ≡ numeral_of ds = e ∙ digits-number ds h in
    subst (λ o. IfSome o (λ n. n < 10 ^ count)) (sym e') (short (fits ds))
  where
    short : (b : Bool) → IfSome (only_if b (Some (digits_value 10 ds))) (λ n. n < 10 ^ count)
    short true = digits_value_short model ds count (sym (all-digits ds) ∙ h) (omega (arith, l))
    short false = tt
