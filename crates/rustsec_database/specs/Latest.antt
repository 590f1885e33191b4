-- The latest of some dates.
use Rattle.std.specs.Prelude.{ℕ, List, Option, Some, None, if◌then◌else◌, map}
use Rattle.std.specs.Cmp.Lexicographic.{slice_cmp}
use Rattle.std.specs.List.{find, list_all}
use Rattle.std.specs.Ordering.{is_le, nat_cmp}
use Rattle.rustsec_advisory.specs.declared.advisory.Advisory.{Advisory}

-- the first of some dates that none of them is after
abbrev pub latest : List (List ℕ) → Option (List ℕ)
latest dates = find (λ date. list_all (λ d. is_le (slice_cmp nat_cmp d date)) dates) dates

-- the latest of the dates of some advisories, if any
abbrev pub last_date : List Advisory → Option (List ℕ)
last_date advisories = latest (map (λ (a : Advisory). a.metadata.date) advisories)

-- ---- one date after another, for the functions that look for the latest

-- the latest of some dates and one more: that of the others unless the date is after it
abbrev pub later : Option (List ℕ) → List ℕ → Option (List ℕ)
later None date = Some date
later (Some other) date = if is_le (slice_cmp nat_cmp date other) then Some other else Some date
