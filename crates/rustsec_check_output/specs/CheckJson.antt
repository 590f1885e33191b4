-- The JSON of a check as it is written, piece by piece.
use Rattle.std.specs.Prelude.{◌==◌, ◌||◌, ◌++◌, ℕ, Bool, if◌then◌else◌, List, [], ◌∷◌, Option, Some, None, codes, length, nat_lt}
use Rattle.std.specs.Fmt.{decimal}
use Rattle.std.specs.List.{flat_map}
use Rattle.semver.specs.Identifiers.{parts_text}
use Rattle.semver.specs.Parse.{Held}
use Rattle.serde_json.specs.Data.{string}
use Rattle.serde_json.specs.Written.{compact_text}
use Rattle.rustsec_values.specs.Failure as failure
use Rattle.rustsec_values.specs.declared.error.ErrorKind.{ErrorKind}
use Rattle.rustsec_versions.specs.acceptance.Lists.{Lists}
use Rattle.rustsec_versions.specs.requirement.RequirementText.{requirement_text}
use Rattle.rustsec_lock.specs.Cvss.{cvss_text}
use Rattle.rustsec_lock.specs.Package.{PackageValue}
use Rattle.rustsec_lock.specs.Score.{severity_text}
use Rattle.rustsec_lock.specs.Source.{Source, source_text}
use Rattle.rustsec_lock.specs.declared.cvss.Cvss.{Cvss}
use Rattle.rustsec_lock.specs.declared.severity.Severity.{Severity}
use Rattle.rustsec_texts.specs.Ids.{IdValue}
use Rattle.rustsec_advisory.specs.declared.advisory.Advisory.{Advisory}
use Rattle.rustsec_advisory.specs.declared.metadata.Metadata.{Metadata}
use Rattle.rustsec_policy.specs.Entries.{entry_with}
use Rattle.rustsec_policy.specs.declared.ignored.Ignored.{Ignored}
use Rattle.rustsec_report.specs.Words.{package_word}
use Rattle.rustsec_check.specs.Updates.{UpdateValue}
use Rattle.rustsec_check.specs.Values.{FindingValue, IgnoredValue, YankedValue}
use Rattle.rustsec_check_output.specs.JsonParts.{first_json, key_json}
use Rattle.rustsec_check_output.specs.declared.part.First.TheVariants as first
use Rattle.rustsec_check_output.specs.declared.part.Key.TheVariants as key
use Rattle.rustsec_check_output.specs.CheckTree.{DatedValue, WrittenValue, kind_text, packages_at, reason_of, score_text, severity_of, tenths_of, until_of}

-- ---- values

-- whether a byte has an escape in a string: it is a control character, a quotation mark or a backslash (RFC 8259, section 7)
abbrev pub is_escaped : ℕ → Bool
is_escaped b = nat_lt b 32 || b == 34 || b == 92

-- a string
unfoldable pub quoted : List ℕ → List ℕ
quoted text = compact_text (string text)

abbrev pub boolean_json : Bool → List ℕ
boolean_json b = if b then codes "true" else codes "false"

-- a value that may be missing
abbrev pub optional_json : {A : Type 0} → (A → List ℕ) → Option A → List ℕ
optional_json text None = codes "null"
optional_json text (Some x) = text x

-- values, each after a comma
abbrev pub later_json : {A : Type 0} → (A → List ℕ) → List A → List ℕ
later_json text xs = flat_map (λ x. codes "," ++ text x) xs

-- a list
abbrev pub list_json : {A : Type 0} → (A → List ℕ) → List A → List ℕ
list_json text [] = codes "[]"
list_json text (x ∷ xs) = codes "[" ++ (text x ++ (later_json text xs ++ codes "]"))

abbrev pub ids_json : List IdValue → List ℕ
ids_json ids = list_json (λ (i : IdValue). quoted i.text) ids

-- ---- packages

abbrev pub named_pieces : List ℕ → List ℕ → List ℕ
named_pieces name version = first_json first.Name ++ (name ++ (key_json key.Version ++ (version ++ codes "}")))

unfoldable pub named_json : PackageValue → List ℕ
named_json p = named_pieces (quoted p.name) (quoted (parts_text p.version))

abbrev pub sourced_pieces : List ℕ → List ℕ → List ℕ → List ℕ
sourced_pieces name source version =
    first_json first.Name ++ (name ++ (key_json key.Source ++ (source ++ (key_json key.Version ++ (version ++ codes "}")))))

abbrev pub source_json : Option Source → List ℕ
source_json source = optional_json (λ s. quoted (source_text s)) source

unfoldable pub sourced_json : PackageValue → List ℕ
sourced_json p = sourced_pieces (quoted p.name) (source_json p.source) (quoted (parts_text p.version))

-- the packages at some places, by their names and versions
abbrev pub places_json : List PackageValue → List ℕ → List ℕ
places_json packages places = list_json named_json (packages_at packages places)

-- ---- advisories

abbrev pub cvss_json : Option Cvss → List ℕ
cvss_json cvss = optional_json (λ c. quoted (cvss_text c)) cvss

abbrev pub score_json : Option ℕ → List ℕ
score_json tenths = optional_json (λ t. quoted (score_text t)) tenths

abbrev pub severity_json : Option Severity → List ℕ
severity_json severity = optional_json (λ s. quoted (severity_text s)) severity

abbrev pub subject_pieces : List ℕ → List ℕ → List ℕ → List ℕ → List ℕ
subject_pieces aliases cvss date id =
    first_json first.Aliases ++ (aliases ++ (key_json key.Cvss ++ (cvss ++ (key_json key.Date ++ (date ++ (key_json key.Id ++ id))))))

abbrev pub rating_pieces : List ℕ → List ℕ → List ℕ → List ℕ → List ℕ
rating_pieces score severity title url =
    key_json key.Score ++ (score ++ (key_json key.Severity ++ (severity ++ (key_json key.Title ++ (title ++ (key_json key.Url ++ (url ++ codes "}")))))))

-- the beginning of an advisory's object, up to the ID
unfoldable pub dated_json : Metadata → List ℕ
dated_json m = key_json key.Date ++ (quoted m.date ++ (key_json key.Id ++ quoted m.id.text))

-- what it is about
unfoldable pub subject_json : Metadata → List ℕ
subject_json m = first_json first.Aliases ++ (ids_json m.aliases ++ (key_json key.Cvss ++ (cvss_json m.cvss ++ dated_json m)))

-- the rest of it
unfoldable pub named_rating_json : Metadata → List ℕ
named_rating_json m = key_json key.Title ++ (quoted m.title ++ (key_json key.Url ++ (optional_json quoted m.url ++ codes "}")))

-- the rating, and the rest
unfoldable pub rating_json : Metadata → List ℕ
rating_json m = key_json key.Score ++ (score_json (tenths_of m) ++ (key_json key.Severity ++ (severity_json (severity_of m) ++ named_rating_json m)))

unfoldable pub advisory_json : Metadata → List ℕ
advisory_json m = subject_json m ++ rating_json m

-- ---- findings

abbrev pub requirements_json : List (List Held) → List ℕ
requirements_json rs = list_json (λ r. quoted (requirement_text r)) rs

abbrev pub versions_pieces : List ℕ → List ℕ → List ℕ
versions_pieces patched unaffected = first_json first.Patched ++ (patched ++ (key_json key.Unaffected ++ (unaffected ++ codes "}")))

unfoldable pub versions_json : Lists → List ℕ
versions_json v = versions_pieces (requirements_json v.patched) (requirements_json v.unaffected)

-- the command that updates a package
unfoldable pub command_json : PackageValue → List ℕ
command_json p = first_json first.UpdateCommand ++ (quoted (package_word p) ++ codes "]")

abbrev pub update_pieces : List ℕ → List ℕ → List ℕ → List ℕ → List ℕ
update_pieces command compatible ignored least_free =
    first_json first.Command ++ (command ++ (key_json key.Compatible ++ (compatible ++ (key_json key.Ignored ++ (ignored
    ++ (key_json key.LeastFree ++ (least_free ++ codes "}")))))))

unfoldable pub moved_json : PackageValue → UpdateValue → List ℕ
moved_json p u = key_json key.Ignored ++ (ids_json u.moved_by ++ (key_json key.LeastFree ++ (optional_json (λ v. quoted (parts_text v)) u.least_free ++ codes "}")))

-- how a finding can be mended
unfoldable pub update_json : PackageValue → UpdateValue → List ℕ
update_json p u = first_json first.Command ++ (command_json p ++ (key_json key.Compatible ++ (boolean_json u.is_compatible ++ moved_json p u)))

abbrev pub path_json : List PackageValue → Option (List ℕ) → List ℕ
path_json packages path = optional_json (places_json packages) path

abbrev pub pair_pieces : List ℕ → List ℕ → List ℕ → List ℕ → List ℕ
pair_pieces advisory denied dependents kind =
    first_json first.Advisory ++ (advisory ++ (key_json key.Denied ++ (denied ++ (key_json key.Dependents ++ (dependents ++ (key_json key.Kind ++ kind))))))

abbrev pub said_pieces : List ℕ → List ℕ → List ℕ → List ℕ → List ℕ → List ℕ
said_pieces old «package» path update versions =
    key_json key.Old ++ (old ++ (key_json key.Package ++ («package» ++ (key_json key.Path ++ (path ++ (key_json key.Update ++ (update
    ++ (key_json key.Versions ++ (versions ++ codes "}")))))))))

-- the beginning of a finding's object, up to what it is
unfoldable pub pair_json : List PackageValue → FindingValue → List ℕ
pair_json packages f =
    pair_pieces (advisory_json f.advisory.metadata) (boolean_json f.is_denied) (places_json packages f.dependents) (quoted (kind_text f.kind))

-- the rest of it
unfoldable pub mended_json : List PackageValue → FindingValue → List ℕ
mended_json packages f = key_json key.Path ++ (path_json packages f.path ++ (key_json key.Update ++ (update_json f.«package» f.update ++ (key_json key.Versions ++ (versions_json f.advisory.versions ++ codes "}")))))

-- what is known about it, and the rest
unfoldable pub said_json : List PackageValue → FindingValue → List ℕ
said_json packages f = key_json key.Old ++ (boolean_json f.is_old ++ (key_json key.Package ++ (sourced_json f.«package» ++ mended_json packages f)))

unfoldable pub finding_json : List PackageValue → FindingValue → List ℕ
finding_json packages f = pair_json packages f ++ said_json packages f

-- ---- yanked packages

abbrev pub yanked_pieces : List ℕ → List ℕ → List ℕ → List ℕ → List ℕ → List ℕ
yanked_pieces denied dependents old «package» path =
    first_json first.Denied ++ (denied ++ (key_json key.Dependents ++ (dependents ++ (key_json key.Old ++ (old ++ (key_json key.Package ++ («package»
    ++ (key_json key.Path ++ (path ++ codes "}")))))))))

unfoldable pub yanked_there_json : List PackageValue → YankedValue → List ℕ
yanked_there_json packages y = key_json key.Old ++ (boolean_json y.is_old ++ (key_json key.Package ++ (sourced_json y.«package» ++ (key_json key.Path ++ (path_json packages y.path ++ codes "}")))))

-- a yanked package
unfoldable pub yanked_json : List PackageValue → YankedValue → List ℕ
yanked_json packages y = first_json first.Denied ++ (boolean_json y.is_denied ++ (key_json key.Dependents ++ (places_json packages y.dependents ++ yanked_there_json packages y)))

-- ---- ignored pairs

abbrev pub ignored_pieces : List ℕ → List ℕ → List ℕ → List ℕ → List ℕ → List ℕ
ignored_pieces advisory kind «package» reason until =
    first_json first.Advisory ++ (advisory ++ (key_json key.Kind ++ (kind ++ (key_json key.Package ++ («package» ++ (key_json key.Reason ++ (reason
    ++ (key_json key.Until ++ (until ++ codes "}")))))))))

-- a pair that is ignored, by the entry that has its advisory's ID, if any
unfoldable pub reasons_json : Option Ignored → IgnoredValue → List ℕ
reasons_json entry i = key_json key.Package ++ (sourced_json i.«package» ++ (key_json key.Reason ++ (optional_json quoted (reason_of entry) ++ (key_json key.Until ++ (optional_json quoted (until_of entry) ++ codes "}")))))

-- the whole of it
unfoldable pub entry_json : Option Ignored → IgnoredValue → List ℕ
entry_json entry i = first_json first.Advisory ++ (quoted i.advisory.metadata.id.text ++ (key_json key.Kind ++ (quoted (kind_text i.kind) ++ reasons_json entry i)))

unfoldable pub ignored_json : List Ignored → IgnoredValue → List ℕ
ignored_json entries i = entry_json (entry_with entries i.advisory.metadata.id) i

-- ---- the check

abbrev pub database_pieces : List ℕ → List ℕ → List ℕ
database_pieces count date = first_json first.AdvisoryCount ++ (count ++ (key_json key.LastDate ++ (date ++ codes "}")))

unfoldable pub database_json : DatedValue → List ℕ
database_json d = database_pieces (decimal d.count) (optional_json quoted d.last_date)

unfoldable pub lockfile_json : ℕ → List ℕ
lockfile_json packages = first_json first.DependencyCount ++ (decimal packages ++ codes "}")

abbrev pub found_pieces : List ℕ → List ℕ → List ℕ → List ℕ → List ℕ
found_pieces below database findings ignored =
    first_json first.BelowThreshold ++ (below ++ (key_json key.Database ++ (database ++ (key_json key.Findings ++ (findings
    ++ (key_json key.Ignored ++ ignored))))))

abbrev pub looked_at_pieces : List ℕ → List ℕ → List ℕ → List ℕ → List ℕ → List ℕ
looked_at_pieces lockfile notes unknown unused yanked =
    key_json key.Lockfile ++ (lockfile ++ (key_json key.Notes ++ (notes ++ (key_json key.UnknownIgnores ++ (unknown ++ (key_json key.UnusedIgnores ++ (unused
    ++ (key_json key.Yanked ++ (yanked ++ codes "}")))))))))

-- the beginning of a check's object, up to the ignored pairs
unfoldable pub listed_json : WrittenValue → List ℕ
listed_json w = key_json key.Findings ++ (list_json (finding_json w.packages) w.check.findings ++ (key_json key.Ignored ++ list_json (ignored_json w.entries) w.check.ignored))

-- the beginning, with it
unfoldable pub found_json : WrittenValue → List ℕ
found_json w = first_json first.BelowThreshold ++ (decimal w.check.below_threshold ++ (key_json key.Database ++ (database_json w.database ++ listed_json w)))

-- the rest of it
unfoldable pub unneeded_json : WrittenValue → List ℕ
unneeded_json w = key_json key.UnknownIgnores ++ (ids_json w.check.unknown ++ (key_json key.UnusedIgnores ++ (ids_json w.check.unused ++ (key_json key.Yanked ++ (optional_json (list_json (yanked_json w.packages)) w.yanked ++ codes "}")))))

-- the rest, with it
unfoldable pub looked_at_json : WrittenValue → List ℕ
looked_at_json w = key_json key.Lockfile ++ (lockfile_json (length w.packages) ++ (key_json key.Notes ++ (list_json quoted w.notes ++ unneeded_json w)))

unfoldable pub check_json : WrittenValue → List ℕ
check_json w = found_json w ++ looked_at_json w

-- ---- the lines for many lockfiles

abbrev pub many_pieces : List ℕ → List ℕ → List ℕ
many_pieces check lockfile = first_json first.Check ++ (check ++ (key_json key.Lockfile ++ (lockfile ++ codes "}\n")))

unfoldable pub many_json : List ℕ → WrittenValue → List ℕ
many_json path w = many_pieces (check_json w) (quoted path)

unfoldable pub refused_json : List ℕ → ErrorKind → List ℕ
refused_json path kind =
    first_json first.Lockfile ++ (quoted path ++ (key_json key.Refused ++ (quoted (failure.kind_text kind) ++ codes "}\n")))
