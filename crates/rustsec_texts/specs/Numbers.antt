-- Numbers in decimal digits, and the parts of a text between its dashes.
use Rattle.std.specs.Prelude.{ℕ, ◌==◌, ◌^◌, Bool, ◌&&◌, List, [], ◌∷◌, Option, Some, None, length, nat_lt}
use Rattle.std.specs.Char.{is_ascii_digit}
use Rattle.std.specs.List.{after_last, list_all, slice_split}
use Rattle.std.specs.Str.Parse.{digits_value, without_leading_plus}
use Rattle.rustsec_values.specs.Reading.{only_if}

-- the number that one or more digits write, if it is below 2^32
abbrev pub numeral_of : List ℕ → Option ℕ
numeral_of text = only_if (nat_lt 0 (length text) && (list_all is_ascii_digit text && nat_lt (digits_value 10 text) (2 ^ 32))) (Some (digits_value 10 text))

-- the number that digits write after an optional plus; leading zeros are allowed
abbrev pub number_of : List ℕ → Option ℕ
number_of text = numeral_of (without_leading_plus text)

-- the number that exactly this many digits write
abbrev pub digits_of : ℕ → List ℕ → Option ℕ
digits_of count text = only_if ((length text == count) && list_all is_ascii_digit text) (numeral_of text)

-- a dash
abbrev pub is_dash : ℕ → Bool
is_dash b = b == 45

-- the elements of a list of three
abbrev pub of_three : {A : Type 0} → List A → Option (A × A × A)
of_three [] = None
of_three (a ∷ []) = None
of_three (a ∷ b ∷ []) = None
of_three (a ∷ b ∷ c ∷ []) = Some (a, b, c)
of_three (a ∷ b ∷ c ∷ d ∷ more) = None

-- the parts of a text between its dashes, if there are three
abbrev pub three_parts : List ℕ → Option (List ℕ × List ℕ × List ℕ)
three_parts text = of_three (slice_split is_dash text)

-- the last part of a text between its dashes
abbrev pub last_part : List ℕ → List ℕ
last_part text = after_last is_dash text
