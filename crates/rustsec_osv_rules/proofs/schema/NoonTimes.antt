-- Noon of a parsed day is a time of the schema.
use Rattle.std.proofs.Common.{◌≡◌, ◌∙◌, ◌&&◌, ◌++◌, ◌^◌, ℕ, ◌==◌, Bool, true, false, List, [], ◌∷◌, Option, Some, None, ap, arith, codes, inl, length, nat_lt, refl, subst, sym}
use Rattle.std.proofs.lemmas.Bool.{and_parts, eqb-true}
use Rattle.std.proofs.lemmas.List.Splits.{join_with_byte-slice_split}
use Rattle.std.proofs.lemmas.Option.{same_Some}
use Rattle.std.specs.Char.{is_ascii_digit}
use Rattle.std.specs.List.{join_with_byte, list_all, slice_split}
use Rattle.std.specs.Str.Parse.{digits_value}
use Rattle.rustsec_values.specs.Reading.{◌>>=◌, only_if}
use Rattle.rustsec_texts.specs.Dates.{Day, date_of, day_numbers, day_of, is_real_day}
use Rattle.rustsec_texts.specs.Ids.{is_year}
use Rattle.rustsec_texts.specs.Numbers.{digits_of, is_dash, numeral_of, of_three, three_parts}
use Rattle.rustsec_osv_rules.specs.schema.Exports.{HasNoon}
use Rattle.rustsec_osv_rules.specs.schema.Times.{AreDigits, IsClock}

-- ---- the parts of a day that was parsed

of_three-is : (xs : List (List ℕ)) (p : List ℕ × List ℕ × List ℕ) → of_three xs ≡ Some p → xs ≡ p.0 ∷ p.1 ∷ p.2 ∷ []
of_three-is [] p e = cc e
of_three-is (x ∷ []) p e = cc e
of_three-is (x ∷ y ∷ []) p e = cc e
of_three-is (x ∷ y ∷ z ∷ []) p e = subst (λ (q : List ℕ × List ℕ × List ℕ). x ∷ y ∷ z ∷ [] ≡ q.0 ∷ q.1 ∷ q.2 ∷ []) (same_Some (x, y, z) p e) refl
of_three-is (x ∷ y ∷ z ∷ w ∷ more) p e = cc e

text-of-parts : (t : List ℕ) (p : List ℕ × List ℕ × List ℕ) → three_parts t ≡ Some p → t ≡ p.0 ++ (45 ∷ (p.1 ++ (45 ∷ p.2)))
text-of-parts t p e = sym (join_with_byte-slice_split 45 t) ∙ ap (join_with_byte 45) (of_three-is (slice_split is_dash t) p e)

only : {A : Type 0} (b : Bool) (o : Option A) (y : A) → only_if b o ≡ Some y → (b ≡ true) × (o ≡ Some y)
only true o y e = (refl, e)
only false o y e = cc e

digits-of : (n : ℕ) (t : List ℕ) (v : ℕ) → digits_of n t ≡ Some v → AreDigits n t v
digits-of n t v e =
    let outer = only ((length t == n) && list_all is_ascii_digit t) (numeral_of t) v e in
    let inner = only (nat_lt 0 (length t) && (list_all is_ascii_digit t && nat_lt (digits_value 10 t) (2 ^ 32))) (Some (digits_value 10 t)) v outer.1 in
    let parts = and_parts (length t == n) (list_all is_ascii_digit t) outer.0 in
    record { count = eqb-true (length t) n parts.0; digits = parts.1; value = sym (same_Some (digits_value 10 t) v inner.1) }

zeros : AreDigits 2 (codes "00") 0
zeros = record { count = refl; digits = refl; value = refl }

-- twelve o'clock
noon-clock : (date : Day) → IsClock (codes "12:00:00") date (record { hour = 12; minute = 0; second = 0 })
noon-clock date = record {
  hour = codes "12";
  is_hour = record { count = refl; digits = refl; value = refl };
  minute = codes "00";
  is_minute = zeros;
  second = codes "00";
  is_second = zeros;
  hour_range = omega arith;
  minute_range = omega arith;
  second_range = inl (omega arith);
  is = refl;
}

-- step by step through the reader of days
module _ (t : List ℕ) (p : List ℕ × List ℕ × List ℕ) (e : three_parts t ≡ Some p) (day : Day) (is : is_real_day day ≡ true) where
  read-numbers : (y m d : Option ℕ) → digits_of 4 p.0 ≡ y → digits_of 2 p.1 ≡ m → digits_of 2 p.2 ≡ d
      → (y >>= λ year. m >>= λ month. d >>= λ n. Some (record { year = year; month = month; day = n })) ≡ Some day → HasNoon t
  read-numbers None m d ey em ed v = cc v
  read-numbers (Some y) None d ey em ed v = cc v
  read-numbers (Some y) (Some m) None ey em ed v = cc v
  read-numbers (Some y) (Some m) (Some d) ey em ed v = record {
    date = record { year = y; month = m; day = d };
    clock = record { hour = 12; minute = 0; second = 0 };
    date_text = t;
    is_date = record {
      year = p.0;
      is_year = digits-of 4 p.0 y ey;
      month = p.1;
      is_month = digits-of 2 p.1 m em;
      day = p.2;
      is_day = digits-of 2 p.2 d ed;
      exists = subst (λ (x : Day). is_real_day x ≡ true) (sym (same_Some (record { year = y; month = m; day = d }) day v)) is;
      is = text-of-parts t p e;
    };
    clock_text = codes "12:00:00";
    is_clock = noon-clock (record { year = y; month = m; day = d });
    fraction = [];
    is_fraction = inl refl;
    is = refl;
  }

day-numbers : (t : List ℕ) (o : Option (List ℕ × List ℕ × List ℕ)) → three_parts t ≡ o → (day : Day)
    → (o >>= λ parts. digits_of 4 parts.0 >>= λ year. digits_of 2 parts.1 >>= λ month. digits_of 2 parts.2 >>= λ d. Some (record { year = year; month = month; day = d })) ≡ Some day
    → is_real_day day ≡ true → HasNoon t
day-numbers t None e day w is = cc w
day-numbers t (Some p) e day w is = read-numbers t p e day is (digits_of 4 p.0) (digits_of 2 p.1) (digits_of 2 p.2) refl refl refl w

day-noon : (t : List ℕ) (o : Option Day) → day_numbers t ≡ o → (day : Day) → (o >>= λ d. only_if (is_year d.year && is_real_day d) (Some d)) ≡ Some day → HasNoon t
day-noon t None e day w = cc w
day-noon t (Some d) e day w =
    let both = only (is_year d.year && is_real_day d) (Some d) day w in
    day-numbers t (three_parts t) refl d e (and_parts (is_year d.year) (is_real_day d) both.0).1

date-noon : (t : List ℕ) (o : Option Day) → day_of t ≡ o → (date : List ℕ) → (o >>= λ d. Some t) ≡ Some date → HasNoon date
date-noon t None e date w = cc w
date-noon t (Some day) e date w = subst HasNoon (same_Some t date w) (day-noon t (day_numbers t) refl day e)

-- noon of a day that was parsed is a time
pub parsed-noon : (t date : List ℕ) → date_of t ≡ Some date → HasNoon date
parsed-noon t date e = date-noon t (day_of t) refl date e
