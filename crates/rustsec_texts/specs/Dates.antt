-- Dates `YYYY-MM-DD` (RFC 3339, `full-date`) of the years 2000 to 2100 that exist in the Gregorian calendar.
use Rattle.std.specs.Prelude.{ℕ, ◌==◌, ◌%◌, Bool, ◌&&◌, ◌||◌, not, if◌then◌else◌, List, Option, Some, nat_le}
use Rattle.rustsec_values.specs.Reading.{◌>>=◌, only_if}
use Rattle.rustsec_texts.specs.Ids.{is_year}
use Rattle.rustsec_texts.specs.Numbers.{digits_of, three_parts}

-- a day of the calendar
pub record Day : Type 0 where
  pub year : ℕ
  pub month : ℕ
  pub day : ℕ

-- each fourth year is a leap year; of the years that end a century, only each fourth one is
abbrev pub is_leap_year : ℕ → Bool
is_leap_year year = (year % 4 == 0) && (not (year % 100 == 0) || (year % 400 == 0))

-- the days of a month: 28 in February, or 29 in a leap year; 30 in April, June, September and November; else 31
abbrev pub days_in_month : ℕ → ℕ → ℕ
days_in_month year month =
    if month == 2 then (if is_leap_year year then 29 else 28)
    else (if (month == 4) || ((month == 6) || ((month == 9) || (month == 11))) then 30 else 31)

-- whether a day exists in the calendar
abbrev pub is_real_day : Day → Bool
is_real_day d = (nat_le 1 d.month && nat_le d.month 12) && (nat_le 1 d.day && nat_le d.day (days_in_month d.year d.month))

-- the numbers of a text `YYYY-MM-DD`: four digits, two and two, with a dash between them
abbrev pub day_numbers : List ℕ → Option Day
day_numbers text = three_parts text >>= λ parts. digits_of 4 parts.0 >>= λ year. digits_of 2 parts.1 >>= λ month. digits_of 2 parts.2 >>= λ day.
    Some (record { year = year; month = month; day = day })

-- the day of a date's text: one that exists, of a year from 2000 to 2100
abbrev pub day_of : List ℕ → Option Day
day_of text = day_numbers text >>= λ d. only_if (is_year d.year && is_real_day d) (Some d)

-- the date of a text, if it is a date: the text itself
abbrev pub date_of : List ℕ → Option (List ℕ)
date_of text = day_of text >>= λ d. Some text
