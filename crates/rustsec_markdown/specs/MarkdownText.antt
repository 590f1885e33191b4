-- The text of a check for a comment on a pull request, in GitHub Flavored Markdown (GFM): a heading, a table of findings
-- (GFM, section 4.10) and a list of the rest (GFM, section 5.4), in at most 65,000 bytes.
use Rattle.std.specs.Prelude.{◌++◌, ◌==◌, ◌-◌, not, ℕ, Bool, if◌then◌else◌, List, [], ◌∷◌, Option, Some, None, codes, length, map, nat_le, slice_get}
use Rattle.std.specs.Fmt.{decimal}
use Rattle.std.specs.List.{concat, filter, flat_map}
use Rattle.semver.specs.Parse.{Parts}
use Rattle.rustsec_lock.specs.Package.{PackageValue}
use Rattle.rustsec_lock.specs.Score.{severity_text}
use Rattle.rustsec_lock.specs.declared.severity.Severity.{Severity}
use Rattle.rustsec_texts.specs.Ids.{IdValue}
use Rattle.rustsec_policy.specs.Entries.{entry_with}
use Rattle.rustsec_policy.specs.declared.ignored.Ignored.{Ignored}
use Rattle.rustsec_check.specs.Values.{FindingValue, IgnoredValue, YankedValue}
use Rattle.rustsec_check_output.specs.CheckText.{arrow, counted, old_words}
use Rattle.rustsec_check_output.specs.CheckTree.{WrittenValue, kind_text, reason_of, score_text, severity_of, tenths_of, until_of}
use Rattle.rustsec_markdown.specs.Escaped.{escaped, escaped_version}

-- ---- words

-- a text of a file, in an element `code`
unfoldable pub code_words : List ℕ → List ℕ
code_words text = codes "<code>" ++ (escaped text ++ codes "</code>")

-- a version, likewise
unfoldable pub version_words : Parts → List ℕ
version_words v = codes "<code>" ++ (escaped_version v ++ codes "</code>")

-- the name and the version of a package
unfoldable pub package_words : PackageValue → List ℕ
package_words p = codes "<code>" ++ (escaped p.name ++ (codes " " ++ (escaped_version p.version ++ codes "</code>")))

-- a rating and its score, which may be missing
abbrev pub rating_words : Option Severity → Option ℕ → List ℕ
rating_words None tenths = []
rating_words (Some s) None = []
rating_words (Some s) (Some tenths) = codes ", " ++ (severity_text s ++ (codes " " ++ score_text tenths))

abbrev pub denied_words : Bool → List ℕ
denied_words is_denied = if is_denied then codes ", denied" else []

-- ---- the row of a finding

-- what the finding is, its rating, whether it is denied and whether it is old
unfoldable pub status_words : FindingValue → List ℕ
status_words f =
    kind_text f.kind ++ (rating_words (severity_of f.advisory.metadata) (tenths_of f.advisory.metadata)
    ++ (denied_words f.is_denied ++ old_words f.is_old))

-- the package at a place, or a question mark if there is none
abbrev pub known_words : Option PackageValue → List ℕ
known_words None = codes "?"
known_words (Some p) = package_words p

abbrev pub place_words : List PackageValue → ℕ → List ℕ
place_words packages place = known_words (slice_get packages place)

-- the packages at some places, each after an arrow
abbrev pub steps : List PackageValue → List ℕ → List ℕ
steps packages path = flat_map (λ place. arrow ++ place_words packages place) path

-- the packages of a path, with arrows between them
abbrev pub places_words : List PackageValue → List ℕ → List ℕ
places_words packages [] = codes "no path from a root"
places_words packages (place ∷ path) = place_words packages place ++ steps packages path

abbrev pub path_words : List PackageValue → Option (List ℕ) → List ℕ
path_words packages None = codes "no path from a root"
path_words packages (Some path) = places_words packages path

-- the version to update to, and whether it is compatible with the locked one
abbrev pub update_words : Option Parts → Bool → List ℕ
update_words None is_compatible = codes "no fixed version"
update_words (Some v) is_compatible = version_words v ++ (if is_compatible then codes " (compatible)" else codes " (incompatible)")

-- the cells of a row: the package, the advisory and its title; the status, the path and the update
unfoldable pub subject_cells : FindingValue → List ℕ
subject_cells f =
    codes "| " ++ (package_words f.«package» ++ (codes " | " ++ (code_words f.advisory.metadata.id.text
    ++ (codes " | " ++ code_words f.advisory.metadata.title))))

unfoldable pub said_cells : List PackageValue → FindingValue → List ℕ
said_cells packages f =
    codes " | " ++ (status_words f ++ (codes " | " ++ (path_words packages f.path
    ++ (codes " | " ++ (update_words f.update.least_free f.update.is_compatible ++ codes " |\n")))))

unfoldable pub row : List PackageValue → FindingValue → List ℕ
row packages f = subject_cells f ++ said_cells packages f

-- ---- the lines of the list

-- a label and a text of a file
abbrev pub labelled : List ℕ → List ℕ → List ℕ
labelled label text = label ++ (code_words text ++ codes "\n")

unfoldable pub yanked_line : YankedValue → List ℕ
yanked_line y = codes "- yanked: " ++ (package_words y.«package» ++ (denied_words y.is_denied ++ (old_words y.is_old ++ codes "\n")))

-- a last day and a reason, which may be missing
abbrev pub until_words : Option (List ℕ) → List ℕ
until_words None = []
until_words (Some until) = codes " until " ++ code_words until

abbrev pub reason_words : Option (List ℕ) → List ℕ
reason_words None = []
reason_words (Some reason) = codes ": " ++ code_words reason

-- an ignored pair, with what the entry that ignores it says
abbrev pub ignored_with : Option Ignored → IgnoredValue → List ℕ
ignored_with entry i =
    codes "- ignored: " ++ (code_words i.advisory.metadata.id.text ++ (codes " in " ++ (package_words i.«package»
    ++ (until_words (until_of entry) ++ (reason_words (reason_of entry) ++ codes "\n")))))

unfoldable pub ignored_line : List Ignored → IgnoredValue → List ℕ
ignored_line entries i = ignored_with (entry_with entries i.advisory.metadata.id) i

unfoldable pub unused_line : IdValue → List ℕ
unused_line id = labelled (codes "- unused ignore: ") id.text

unfoldable pub unknown_line : IdValue → List ℕ
unknown_line id = labelled (codes "- unknown ignore: ") id.text

-- how many pairs the least severity alone leaves out
unfoldable pub below_line : ℕ → List ℕ
below_line n = codes "- left out below the least severity: " ++ (decimal n ++ codes "\n")

-- the same, if any
abbrev pub below_lines : ℕ → List (List ℕ)
below_lines n = if n == 0 then [] else below_line n ∷ []

unfoldable pub note_line : List ℕ → List ℕ
note_line note = labelled (codes "- note: ") note

-- the packages that are yanked, none if no index was asked
abbrev pub yanked_of : Option (List YankedValue) → List YankedValue
yanked_of None = []
yanked_of (Some yanked) = yanked

-- a line for each ignored ID without effect: those that ignore no pair, and those that no advisory has
abbrev pub id_lines : List IdValue → List IdValue → List (List ℕ)
id_lines unused unknown = map unused_line unused ++ map unknown_line unknown

-- a line for each yanked package, for each ignored pair, for each ignored ID without effect, for the pairs below the
-- least severity, and for each note
unfoldable pub further_lines : WrittenValue → List (List ℕ)
further_lines w =
    map yanked_line (yanked_of w.yanked) ++ (map (ignored_line w.entries) w.check.ignored
    ++ (id_lines w.check.unused w.check.unknown ++ (below_lines w.check.below_threshold ++ map note_line w.notes)))

-- ---- what fits

-- the lines that fit, in order, into a number of bytes: each that is not longer than what the ones before it leave; a
-- line that is too long is left out, and hides none of the others
unfoldable pub fitting : ℕ → List (List ℕ) → List (List ℕ)
fitting budget [] = []
fitting budget (line ∷ lines) =
    if nat_le (length line) budget then line ∷ fitting (budget - length line) lines else fitting budget lines

-- how many of the lines do not fit
abbrev pub left_out : ℕ → List (List ℕ) → ℕ
left_out budget lines = length lines - length (fitting budget lines)

-- a line that says how many are left out, if any
abbrev pub left_words : ℕ → List ℕ → List ℕ → List ℕ
left_words n one many = if n == 0 then [] else codes "\n" ++ counted n one many

-- ---- the table of the findings

-- the row that names the columns, and the row between it and the others
unfoldable pub table_head : List ℕ
table_head = codes "\n| package | advisory | title | kind | path | update to |\n" ++ codes "| --- | --- | --- | --- | --- | --- |\n"

-- the rows that fit into 48,000 bytes
unfoldable pub table_of : List (List ℕ) → List ℕ
table_of rows =
    table_head ++ (concat (fitting 48_000 rows)
    ++ left_words (left_out 48_000 rows) (codes " finding is left out, for lack of space.\n") (codes " findings are left out, for lack of space.\n"))

abbrev pub table : List (List ℕ) → List ℕ
table rows = if length rows == 0 then [] else table_of rows

-- ---- the list of the rest

-- the lines that fit into 16,000 bytes
unfoldable pub list_of : List (List ℕ) → List ℕ
list_of lines =
    codes "\n" ++ (concat (fitting 16_000 lines)
    ++ left_words (left_out 16_000 lines) (codes " line is left out, for lack of space.\n") (codes " lines are left out, for lack of space.\n"))

abbrev pub list : List (List ℕ) → List ℕ
list lines = if length lines == 0 then [] else list_of lines

-- ---- the heading

-- how many findings there are, how many are denied and how many are not
unfoldable pub found_words : List FindingValue → List ℕ
found_words findings =
    codes "## " ++ (counted (length findings) (codes " finding: ") (codes " findings: ")
    ++ (decimal (length (filter (λ (f : FindingValue). f.is_denied) findings)) ++ (codes " denied, "
    ++ (decimal (length (filter (λ (f : FindingValue). not f.is_denied) findings)) ++ codes " not denied\n"))))

-- how many packages and advisories were looked at
unfoldable pub looked_at_words : ℕ → ℕ → List ℕ
looked_at_words packages advisories =
    codes "\nLooked at " ++ (counted packages (codes " package and ") (codes " packages and ")
    ++ counted advisories (codes " advisory.\n") (codes " advisories.\n"))

unfoldable pub head : WrittenValue → List ℕ
head w = found_words w.check.findings ++ looked_at_words (length w.packages) w.database.count

-- ---- the whole text

unfoldable pub markdown_text : WrittenValue → List ℕ
markdown_text w = head w ++ (table (map (row w.packages) w.check.findings) ++ list (further_lines w))
