-- The text of stats: a line with the number of advisories, and for each table a heading and a line for each row.
use Rattle.std.specs.Prelude.{◌++◌, ◌+◌, ◌-◌, ◌*◌, ◌/◌, ◌==◌, ℕ, List, [], codes, fold, if◌then◌else◌, length, max, min}
use Rattle.std.specs.Fmt.{decimal}
use Rattle.std.specs.List.{flat_map, repeat}
use Rattle.rustsec_stats.specs.declared.stats.Count.{Count}
use Rattle.rustsec_stats.specs.declared.stats.Stats.{Stats}

-- the greatest count of a table; 0 for a table without rows
abbrev pub greatest : List Count → ℕ
greatest cs = fold (λ (n : ℕ) (c : Count). max n c.count) 0 cs

-- how many marks the bar of a count has: 40 for the greatest count, and a share of them for any other, rounded up
abbrev pub bar_width : ℕ → ℕ → ℕ
bar_width most n = if most == 0 then 0 else min ((n * 40 + (most - 1)) / most) 40

-- two spaces and the marks; a count of 0 has no bar
abbrev pub bar : ℕ → List ℕ
bar width = if width == 0 then [] else codes "  " ++ repeat width (codes "#")

-- as many spaces as fill up a text to a width
abbrev pub spaces : ℕ → List ℕ → List ℕ
spaces width text = repeat (width - length text) (codes " ")

-- the name in 22 columns, the count at the right of 6 columns, and the bar
unfoldable pub row_line : ℕ → Count → List ℕ
row_line most c =
    codes "  " ++ (c.name ++ (spaces 22 c.name ++ (spaces 6 (decimal c.count) ++ (decimal c.count
    ++ (bar (bar_width most c.count) ++ codes "\n")))))

abbrev pub row_lines : ℕ → List Count → List ℕ
row_lines most cs = flat_map (row_line most) cs

-- an empty line, the heading, and the rows
unfoldable pub table_text : List ℕ → List Count → List ℕ
table_text heading cs = codes "\n" ++ (heading ++ (codes "\n" ++ row_lines (greatest cs) cs))

unfoldable pub count_line : ℕ → List ℕ
count_line n = codes "advisories: " ++ (decimal n ++ codes "\n")

unfoldable pub first_tables : Stats → List ℕ
first_tables s =
    table_text (codes "collections") s.collections
    ++ (table_text (codes "years") s.years
    ++ table_text (codes "kinds") s.kinds)

unfoldable pub last_tables : Stats → List ℕ
last_tables s =
    table_text (codes "categories") s.categories
    ++ (table_text (codes "severities") s.severities
    ++ table_text (codes "withdrawals") s.withdrawals)

unfoldable pub stats_text : Stats → List ℕ
stats_text s = count_line s.advisories ++ (first_tables s ++ last_tables s)
