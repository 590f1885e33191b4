-- How times are decided, byte by byte. Times.antt says what a time is; the scan accepts exactly the times
-- (proofs/TimeForms.antt).
use Rattle.std.specs.Prelude.{ℕ, ◌==◌, ◌+◌, ◌*◌, ◌-◌, Bool, ◌&&◌, ◌||◌, List, codes, drop, if◌then◌else◌, length, nat_le, nat_lt, slice_index, slice_range, take}
use Rattle.std.specs.Char.{is_ascii_digit}
use Rattle.std.specs.Cmp.Lexicographic.{pointwise}
use Rattle.std.specs.List.{list_all}
use Rattle.std.specs.Str.{bytes_eq}
use Rattle.rustsec_texts.specs.Dates.{days_in_month, is_real_day}

-- whether a byte is what a shape has there, in which 0 means any digit
abbrev pub fits : ℕ → ℕ → Bool
fits shape b = if shape == 48 then is_ascii_digit b else (b == shape)

-- the number of the two digits at an index
abbrev pub two_digits : List ℕ → ℕ → ℕ
two_digits text i = 10 * (slice_index text i - 48) + (slice_index text (i + 1) - 48)

abbrev pub year_of : List ℕ → ℕ
year_of text = 100 * two_digits text 0 + two_digits text 2

-- the day exists in the Gregorian calendar
abbrev pub has_real_day : List ℕ → Bool
has_real_day text = is_real_day (record { year = year_of text; month = two_digits text 5; day = two_digits text 8 })

-- an hour, a minute and a second of a day
abbrev pub has_usual_time : List ℕ → Bool
has_usual_time text = nat_le (two_digits text 11) 23 && (nat_le (two_digits text 14) 59 && nat_le (two_digits text 17) 59)

-- a leap second, 23:59:60, which ends a month's last day (RFC 3339, section 5.7)
abbrev pub has_leap_second : List ℕ → Bool
has_leap_second text = bytes_eq (slice_range text 11 19) (codes "23:59:60") && (two_digits text 8 == days_in_month (year_of text) (two_digits text 5))

abbrev pub has_time_of_day : List ℕ → Bool
has_time_of_day text = has_usual_time text || has_leap_second text

-- a point, digits and Z
abbrev pub is_fraction : List ℕ → Bool
is_fraction rest = nat_lt 2 (length rest)
    && ((slice_index rest 0 == 46) && ((slice_index rest (length rest - 1) == 90) && list_all is_ascii_digit (slice_range rest 1 (length rest - 1))))

-- the zone is Z, after a fraction of a second, if any
abbrev pub is_zone : List ℕ → Bool
is_zone rest = bytes_eq rest (codes "Z") || is_fraction rest

-- a day and a time of it
abbrev pub has_moment : List ℕ → Bool
has_moment text = has_real_day text && has_time_of_day text

abbrev pub is_time : List ℕ → Bool
is_time text = pointwise fits (codes "0000-00-00T00:00:00") (take 19 text) && (has_moment text && is_zone (drop 19 text))
