-- Names of packages.
use Rattle.std.specs.Prelude.{ℕ, List, Option, Some, length, nat_lt}
use Rattle.std.specs.Cmp.Lexicographic.{slice_cmp}
use Rattle.std.specs.Ordering.{nat_cmp}
use Rattle.std.specs.declared.cmp.Ordering.{Ordering}
use Rattle.rustsec_values.specs.Reading.{only_if}

-- the name of a text: any text that is not empty
abbrev pub name_of : List ℕ → Option (List ℕ)
name_of text = only_if (nat_lt 0 (length text)) (Some text)

-- names are ordered by their bytes
abbrev pub name_cmp : List ℕ → List ℕ → Ordering
name_cmp = slice_cmp nat_cmp
