-- The text about what is wrong in a database, for people.
use Rattle.std.specs.Prelude.{◌++◌, ℕ, List, [], Option, Some, None, codes, flat_map}
use Rattle.std.specs.Fmt.{decimal}
use Rattle.rustsec_values.specs.Shown.{shown}
use Rattle.rustsec_lint_database.specs.Remarks.{kind_name}
use Rattle.rustsec_lint_database.specs.declared.counts.Counts.{Counts}
use Rattle.rustsec_lint_database.specs.declared.database.Entry.{Entry}
use Rattle.rustsec_lint_database.specs.declared.remark.Remark.{Remark}

-- a line about the file at a path: the path, a label and words, on which every hidden character is escaped
unfoldable pub line : List ℕ → List ℕ → List ℕ → List ℕ
line path label words = shown (path ++ (codes ": " ++ (label ++ (codes ": " ++ words)))) ++ codes "\n"

-- the line of a remark
abbrev pub remark_line : List ℕ → Remark → List ℕ
remark_line path r = line path (kind_name r.kind) r.text

-- the line of a file that has the ID of an earlier one, the first one with it
abbrev pub twice_line : List ℕ → Option (List ℕ) → List ℕ
twice_line path None = []
twice_line path (Some first) = line path (codes "twice") (codes "the ID of " ++ first)

-- the lines of a file: one for each remark, in order, and one if it has the ID of an earlier file
abbrev pub file_lines : Entry → List ℕ
file_lines e = flat_map (remark_line e.file.path) e.file.remarks ++ twice_line e.file.path e.first

-- the line of the numbers of files, faults and notes
unfoldable pub count_line : Counts → List ℕ
count_line c =
    codes "files: " ++ (decimal c.files ++ (codes ", faults: " ++ (decimal c.faults ++ (codes ", notes: " ++ (decimal c.notes ++ codes "\n")))))

-- the lines of the files in order, and the numbers
unfoldable pub lint_text : Counts → List Entry → List ℕ
lint_text c es = flat_map file_lines es ++ count_line c
