-- Times (RFC 3339, section 5.6, `date-time`), in UTC as the OSV schema asks for them (`$defs.timestamp`). It carries meaning:
-- public contracts cite it.
use Rattle.std.specs.Prelude.{◌≡◌, ◌⊎◌, ◌≤◌, ◌<◌, ℕ, List, [], ◌++◌, codes, length, true}
use Rattle.std.specs.Char.{is_ascii_digit}
use Rattle.std.specs.List.{list_all}
use Rattle.std.specs.Str.Parse.{digits_value}
use Rattle.rustsec_texts.specs.Dates.{Day, days_in_month, is_real_day}

-- "nDIGIT": n digits, and the number that they write
pub record AreDigits (n : ℕ) (text : List ℕ) (number : ℕ) : Type 0 where
  pub count : length text ≡ n
  pub digits : list_all is_ascii_digit text ≡ true
  pub value : number ≡ digits_value 10 text

-- full-date = 4DIGIT "-" 2DIGIT "-" 2DIGIT: a year, a month from 01 to 12, and a day of it (section 5.7, by month and year)
pub record IsDate (text : List ℕ) (date : Day) : Type 0 where
  pub year : List ℕ
  pub is_year : AreDigits 4 year date.year
  pub month : List ℕ
  pub is_month : AreDigits 2 month date.month
  pub day : List ℕ
  pub is_day : AreDigits 2 day date.day
  pub exists : is_real_day date ≡ true
  pub is : text ≡ year ++ (codes "-" ++ (month ++ (codes "-" ++ day)))

-- a time of day
pub record Clock : Type 0 where
  pub hour : ℕ
  pub minute : ℕ
  pub second : ℕ

-- a second from 00 to 59, or 60 in a leap second, which ends the last day of a month in UTC (section 5.7)
abbrev pub IsSecond : Day → Clock → Type 0
IsSecond date clock =
    (clock.second ≤ 59)
    ⊎ ((clock.hour ≡ 23) × (clock.minute ≡ 59) × (clock.second ≡ 60) × (date.day ≡ days_in_month date.year date.month))

-- time-hour ":" time-minute ":" time-second: an hour from 00 to 23, a minute from 00 to 59, and a second
pub record IsClock (text : List ℕ) (date : Day) (clock : Clock) : Type 0 where
  pub hour : List ℕ
  pub is_hour : AreDigits 2 hour clock.hour
  pub minute : List ℕ
  pub is_minute : AreDigits 2 minute clock.minute
  pub second : List ℕ
  pub is_second : AreDigits 2 second clock.second
  pub hour_range : clock.hour ≤ 23
  pub minute_range : clock.minute ≤ 59
  pub second_range : IsSecond date clock
  pub is : text ≡ hour ++ (codes ":" ++ (minute ++ (codes ":" ++ second)))

-- [ "." 1*DIGIT ]: nothing, or a point and one digit or more
abbrev pub IsFraction : List ℕ → Type 0
IsFraction text = (text ≡ []) ⊎ ((digits : List ℕ) × (0 < length digits) × (list_all is_ascii_digit digits ≡ true) × (text ≡ codes "." ++ digits))

-- date-time = full-date "T" partial-time time-offset; the offset is "Z"
pub record IsTime (text : List ℕ) : Type 0 where
  pub date : Day
  pub clock : Clock
  pub date_text : List ℕ
  pub is_date : IsDate date_text date
  pub clock_text : List ℕ
  pub is_clock : IsClock clock_text date clock
  pub fraction : List ℕ
  pub is_fraction : IsFraction fraction
  pub is : text ≡ date_text ++ (codes "T" ++ (clock_text ++ (fraction ++ codes "Z")))
