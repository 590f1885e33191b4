-- The text of a check for people: a block for each finding, the most severe package first, a block for each yanked package,
-- and lines for the rest.
use Rattle.std.specs.Prelude.{◌&&◌, ◌==◌, ◌++◌, not, ℕ, Bool, true, false, if◌then◌else◌, List, [], ◌∷◌, Option, Some, None, codes, length, nat_lt, slice_get}
use Rattle.std.specs.Fmt.{decimal}
use Rattle.std.specs.List.{filter, flat_map, list_any}
use Rattle.semver.specs.Identifiers.{parts_text}
use Rattle.semver.specs.Parse.{Parts}
use Rattle.rustsec_lock.specs.Package.{PackageValue}
use Rattle.rustsec_lock.specs.Score.{severity_text}
use Rattle.rustsec_lock.specs.declared.severity.Severity.{Severity}
use Rattle.rustsec_lock.specs.declared.severity.Severity.TheVariants as severity
use Rattle.rustsec_graph.specs.Entries.{places}
use Rattle.rustsec_texts.specs.Ids.{IdValue}
use Rattle.rustsec_texts.specs.declared.warning_kind.WarningKind.{WarningKind}
use Rattle.rustsec_texts.specs.declared.warning_kind.WarningKind.TheVariants as warning
use Rattle.rustsec_policy.specs.Entries.{entry_with}
use Rattle.rustsec_policy.specs.declared.ignored.Ignored.{Ignored}
use Rattle.rustsec_check.specs.Values.{FindingValue, IgnoredValue, YankedValue}
use Rattle.rustsec_check_output.specs.CheckTree.{WrittenValue, kind_text, reason_of, score_text, severity_of, tenths_of, until_of}
use Rattle.rustsec_values.specs.Shown.{shown}
use Rattle.rustsec_check_output.specs.declared.rank.Rank.{Rank}
use Rattle.rustsec_check_output.specs.declared.rank.Rank.TheVariants as rank

-- ---- ranks

-- the ranks, the most severe one first
abbrev pub ranks : List Rank
ranks = rank.Critical ∷ rank.High ∷ rank.Medium ∷ rank.Low ∷ rank.Harmless ∷ rank.Unrated ∷ rank.Warning ∷ []

-- the place of a rank in this list
abbrev pub rank_place : Rank → ℕ
rank_place rank.Critical = 0
rank_place rank.High = 1
rank_place rank.Medium = 2
rank_place rank.Low = 3
rank_place rank.Harmless = 4
rank_place rank.Unrated = 5
rank_place rank.Warning = 6

-- the rank of a vulnerability with this rating, which may be missing
abbrev pub rated : Option Severity → Rank
rated (Some severity.Critical) = rank.Critical
rated (Some severity.High) = rank.High
rated (Some severity.Medium) = rank.Medium
rated (Some severity.Low) = rank.Low
rated (Some severity.None) = rank.Harmless
rated None = rank.Unrated

abbrev pub rank_with : Option WarningKind → Option Severity → Rank
rank_with None s = rated s
rank_with (Some k) s = rank.Warning

-- the rank of a finding: by its rating, or that of warnings
abbrev pub rank_of : FindingValue → Rank
rank_of f = rank_with f.kind (severity_of f.advisory.metadata)

-- whether a finding is of a rank, and whether it is of a more severe one
abbrev pub is_of : Rank → FindingValue → Bool
is_of r f = rank_place (rank_of f) == rank_place r

abbrev pub is_above : Rank → FindingValue → Bool
is_above r f = nat_lt (rank_place (rank_of f)) (rank_place r)

-- ---- the order of the blocks

-- whether a finding is about the package at a place
abbrev pub is_at : ℕ → FindingValue → Bool
is_at place f = f.place == place

-- whether the most severe finding about the package at a place is of a rank: one of the rank is about it, and none that
-- is more severe
abbrev pub is_topped_by : List FindingValue → Rank → ℕ → Bool
is_topped_by findings r place =
    list_any (is_at place) (filter (is_of r) findings) && not (list_any (is_at place) (filter (is_above r) findings))

-- findings rank by rank
abbrev pub by_rank : List FindingValue → List FindingValue
by_rank findings = flat_map (λ r. filter (is_of r) findings) ranks

-- the findings about the package at a place, rank by rank
abbrev pub group_at : List FindingValue → ℕ → List FindingValue
group_at findings place = by_rank (filter (is_at place) findings)

-- the findings about the packages whose most severe finding is of a rank, in the lockfile's order
abbrev pub groups_of : List FindingValue → ℕ → Rank → List FindingValue
groups_of findings count r = flat_map (group_at findings) (filter (is_topped_by findings r) (places count))

-- all findings about a number of packages: package by package, those with the most severe findings first
abbrev pub in_order : List FindingValue → ℕ → List FindingValue
in_order findings count = flat_map (groups_of findings count) ranks

-- ---- colour

-- a code that sets the look of the characters after it (ECMA-48, `SGR`), if colour is wanted
abbrev pub mark : Bool → List ℕ → List ℕ
mark colored code = if colored then code else []

abbrev pub bold : List ℕ
bold = 27 ∷ codes "[1m"

abbrev pub red : List ℕ
red = 27 ∷ codes "[31m"

abbrev pub plain : List ℕ
plain = 27 ∷ codes "[0m"

-- ---- the block of a finding

-- the name and the version of a package
abbrev pub package_words : PackageValue → List ℕ
package_words p = shown p.name ++ (codes " " ++ parts_text p.version)

-- the ID of the advisory, the package, and the advisory's title
unfoldable pub title_line : Bool → FindingValue → List ℕ
title_line colored f =
    mark colored bold ++ (shown f.advisory.metadata.id.text ++ (mark colored plain ++ (codes " "
    ++ (package_words f.«package» ++ (codes ": " ++ (shown f.advisory.metadata.title ++ codes "\n"))))))

-- a rating and its score, which may be missing
abbrev pub rating_words : Bool → Option Severity → Option ℕ → List ℕ
rating_words colored None tenths = []
rating_words colored (Some s) None = []
rating_words colored (Some s) (Some tenths) = codes ", " ++ (mark colored red ++ (severity_text s ++ (codes " " ++ (score_text tenths ++ mark colored plain))))

-- whether a warning is denied; a vulnerability always is
abbrev pub denied_words : Option WarningKind → Bool → List ℕ
denied_words None is_denied = []
denied_words (Some k) is_denied = if is_denied then codes ", denied" else []

abbrev pub old_words : Bool → List ℕ
old_words is_old = if is_old then codes ", old" else []

-- what the finding is, its rating, whether it is denied and whether it is old
unfoldable pub status_line : Bool → FindingValue → List ℕ
status_line colored f =
    codes "  " ++ (kind_text f.kind ++ (rating_words colored (severity_of f.advisory.metadata) (tenths_of f.advisory.metadata)
    ++ (denied_words f.kind f.is_denied ++ (old_words f.is_old ++ codes "\n"))))

-- the package at a place, or a question mark if there is none
abbrev pub known_words : Option PackageValue → List ℕ
known_words None = codes "?"
known_words (Some p) = package_words p

abbrev pub place_words : List PackageValue → ℕ → List ℕ
place_words packages place = known_words (slice_get packages place)

-- an arrow (U+2192) between spaces
abbrev pub arrow : List ℕ
arrow = 32 ∷ 0xE2 ∷ 0x86 ∷ 0x92 ∷ 32 ∷ []

-- the packages at some places, each after an arrow
abbrev pub steps : List PackageValue → List ℕ → List ℕ
steps packages path = flat_map (λ place. arrow ++ place_words packages place) path

-- the packages of a path, with arrows between them
abbrev pub places_line : List PackageValue → List ℕ → List ℕ
places_line packages [] = codes "  no path from a root\n"
places_line packages (place ∷ path) = codes "  " ++ (place_words packages place ++ (steps packages path ++ codes "\n"))

abbrev pub path_line : List PackageValue → Option (List ℕ) → List ℕ
path_line packages None = codes "  no path from a root\n"
path_line packages (Some path) = places_line packages path

-- the name and the version of a package, as Cargo takes them
unfoldable pub locked_words : PackageValue → List ℕ
locked_words p = shown p.name ++ (codes "@" ++ parts_text p.version)

-- the command that updates a package, if it is enough, else what keeps Cargo from the version
unfoldable pub command_words : PackageValue → List ℕ
command_words p = codes " (compatible): cargo update " ++ (locked_words p ++ codes "\n")

unfoldable pub incompatible_words : PackageValue → List ℕ
incompatible_words p = codes " (incompatible with ^" ++ (parts_text p.version ++ codes ")\n")

-- the version to update a package to
abbrev pub update_line : PackageValue → Option Parts → Bool → List ℕ
update_line p None is_compatible = codes "  no fixed version\n"
update_line p (Some v) is_compatible =
    codes "  update to " ++ (parts_text v ++ (if is_compatible then command_words p else incompatible_words p))

-- IDs, each after a space
unfoldable pub id_words : IdValue → List ℕ
id_words id = codes " " ++ shown id.text

-- the ignored advisories that the version to update to depends on, if any
unfoldable pub moving_words : List IdValue → List ℕ
moving_words ids = codes "  ignoring does not help, these count for the update too:" ++ (flat_map id_words ids ++ codes "\n")

abbrev pub moved_line : List IdValue → List ℕ
moved_line ids = if length ids == 0 then [] else moving_words ids

-- the lines of a finding
unfoldable pub block : Bool → List PackageValue → FindingValue → List ℕ
block colored packages f =
    title_line colored f ++ (status_line colored f ++ (path_line packages f.path
    ++ (update_line f.«package» f.update.least_free f.update.is_compatible ++ moved_line f.update.moved_by)))

-- ---- the block of a yanked package

-- the package, whether it is denied and whether it is old
unfoldable pub yanked_title : Bool → YankedValue → List ℕ
yanked_title colored y =
    mark colored bold ++ (codes "yanked" ++ (mark colored plain ++ (codes " " ++ (package_words y.«package»
    ++ (denied_words (Some warning.Yanked) y.is_denied ++ (old_words y.is_old ++ codes "\n"))))))

-- the lines of a yanked package
abbrev pub yanked_block : Bool → List PackageValue → YankedValue → List ℕ
yanked_block colored packages y = yanked_title colored y ++ path_line packages y.path

-- the lines of the yanked packages, if an index was asked
abbrev pub yanked_blocks : Bool → List PackageValue → Option (List YankedValue) → List ℕ
yanked_blocks colored packages None = []
yanked_blocks colored packages (Some ys) = flat_map (yanked_block colored packages) ys

-- ---- the lines after the blocks

-- a last day and a reason, which may be missing
abbrev pub until_words : Option (List ℕ) → List ℕ
until_words None = []
until_words (Some until) = codes " until " ++ until

abbrev pub reason_words : Option (List ℕ) → List ℕ
reason_words None = []
reason_words (Some reason) = codes ": " ++ shown reason

-- an ignored pair, with what the entry that ignores it says
abbrev pub ignored_with : Option Ignored → IgnoredValue → List ℕ
ignored_with entry i =
    codes "ignored " ++ (shown i.advisory.metadata.id.text ++ (codes " " ++ (package_words i.«package»
    ++ (until_words (until_of entry) ++ (reason_words (reason_of entry) ++ codes "\n")))))

unfoldable pub ignored_line : List Ignored → IgnoredValue → List ℕ
ignored_line entries i = ignored_with (entry_with entries i.advisory.metadata.id) i

-- a label and a text
abbrev pub labelled : List ℕ → List ℕ → List ℕ
labelled label text = label ++ (shown text ++ codes "\n")

unfoldable pub unused_line : IdValue → List ℕ
unused_line id = labelled (codes "unused ignore: ") id.text

unfoldable pub unknown_line : IdValue → List ℕ
unknown_line id = labelled (codes "unknown ignore: ") id.text

-- a line for each ignored ID without effect: those that ignore no pair, and those that no advisory has
abbrev pub id_lines : List IdValue → List IdValue → List ℕ
id_lines unused unknown = flat_map unused_line unused ++ flat_map unknown_line unknown

-- how many pairs the least severity alone leaves out
unfoldable pub below_words : ℕ → List ℕ
below_words n = codes "left out below the least severity: " ++ (decimal n ++ codes "\n")

-- the same, if any
abbrev pub below_line : ℕ → List ℕ
below_line n = if n == 0 then [] else below_words n

abbrev pub note_line : List ℕ → List ℕ
note_line note = labelled (codes "note: ") note

-- ---- the last line

-- a number of things, in the singular or in the plural
unfoldable pub counted : ℕ → List ℕ → List ℕ → List ℕ
counted n one many = decimal n ++ (if n == 1 then one else many)

-- whether a finding is a vulnerability, which has no kind
abbrev pub has_no_kind : Option WarningKind → Bool
has_no_kind None = true
has_no_kind (Some k) = false

abbrev pub is_vulnerability : FindingValue → Bool
is_vulnerability f = has_no_kind f.kind

-- how many packages are yanked, if an index was asked
abbrev pub yanked_words : Option (List YankedValue) → List ℕ
yanked_words None = []
yanked_words (Some ys) = decimal (length ys) ++ codes " yanked, "

-- how many vulnerabilities, warnings, yanked packages and ignored pairs there are
abbrev pub found_words : List FindingValue → Option (List YankedValue) → ℕ → List ℕ
found_words findings yanked ignored =
    counted (length (filter is_vulnerability findings)) (codes " vulnerability, ") (codes " vulnerabilities, ")
    ++ (counted (length (filter (λ f. not (is_vulnerability f)) findings)) (codes " warning, ") (codes " warnings, ")
    ++ (yanked_words yanked ++ (decimal ignored ++ codes " ignored; looked at ")))

-- how many advisories and packages were looked at
abbrev pub looked_at_words : ℕ → ℕ → List ℕ
looked_at_words advisories packages =
    counted advisories (codes " advisory and ") (codes " advisories and ") ++ (counted packages (codes " package\n") (codes " packages\n"))

unfoldable pub last_line : WrittenValue → List ℕ
last_line w = found_words w.check.findings w.yanked (length w.check.ignored) ++ looked_at_words w.database.count (length w.packages)

-- ---- the whole text

-- the blocks of all findings
unfoldable pub blocks : Bool → WrittenValue → List ℕ
blocks colored w = flat_map (block colored w.packages) (in_order w.check.findings (length w.packages))

-- a line for each ignored pair, for each ignored ID without effect, for the pairs below the least severity, and for
-- each note
unfoldable pub further_lines : WrittenValue → List ℕ
further_lines w =
    flat_map (ignored_line w.entries) w.check.ignored ++ (id_lines w.check.unused w.check.unknown
    ++ (below_line w.check.below_threshold ++ flat_map note_line w.notes))

unfoldable pub check_text : Bool → WrittenValue → List ℕ
check_text colored w = blocks colored w ++ (yanked_blocks colored w.packages w.yanked ++ (further_lines w ++ last_line w))
