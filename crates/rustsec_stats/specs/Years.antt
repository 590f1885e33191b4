-- The years of the dates of advisories, from the least to the greatest.
use Rattle.std.specs.Prelude.{ℕ, ◌==◌, ◌&&◌, Bool, List, nat_le, option_map, unwrap_or}
use Rattle.std.specs.List.{filter, list_any, range_with_len}
use Rattle.rustsec_texts.specs.Dates.{Day, day_of}
use Rattle.rustsec_advisory.specs.declared.advisory.Advisory.{Advisory}

-- the year of an advisory's date
abbrev pub year_of : Advisory → ℕ
year_of a = unwrap_or (option_map (λ (d : Day). d.year) (day_of a.metadata.date)) 0

abbrev pub is_of_year : ℕ → Advisory → Bool
is_of_year year a = year_of a == year

-- whether a year is from the least to the greatest of the advisories' years
abbrev pub is_spanned : List Advisory → ℕ → Bool
is_spanned all year = list_any (λ a. nat_le (year_of a) year) all && list_any (λ a. nat_le year (year_of a)) all

-- the years from the least to the greatest; the year of a date is one of 2000 to 2100
abbrev pub years : List Advisory → List ℕ
years all = filter (is_spanned all) (range_with_len 2000 101)
