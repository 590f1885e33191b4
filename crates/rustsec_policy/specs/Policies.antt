-- The policy of a file (cargo-audit's `audit.toml`): each table with its keys, and what its values are. A boolean that a
-- file does not give is none, and not false.
use Rattle.std.specs.Prelude.{ℕ, Bool, true, if◌then◌else◌, not, List, [], ◌∷◌, Option, Some, None, codes, unwrap_or}
use Rattle.std.specs.Cmp.Lexicographic.{slice_cmp}
use Rattle.std.specs.List.{filter_map}
use Rattle.std.specs.Ordering.{is_le, nat_cmp}
use Rattle.toml.specs.Data.{Data, Members, as_bool, as_str, as_table}
use Rattle.toml.specs.Parse.{parse_document}
use Rattle.rustsec_lock.specs.Platforms.{arch_of, os_of}
use Rattle.rustsec_texts.specs.Dates.{date_of}
use Rattle.rustsec_texts.specs.IdOrder.{kind_eq}
use Rattle.rustsec_texts.specs.Ids.{IdValue, id_of}
use Rattle.rustsec_texts.specs.Informational.{informational_of}
use Rattle.rustsec_texts.specs.declared.id_kind.IdKind.TheVariants as kind
use Rattle.rustsec_toml.specs.Fields.{defaulted, every, optional, required, text}
use Rattle.rustsec_values.specs.Reading.{◌>>=◌, only_if, read_all}
use Rattle.rustsec_policy.specs.Keys.{advisory_keys, database_keys, has_only, ignored_keys, output_keys, package_keys, section_keys, target_keys, yanked_keys}
use Rattle.rustsec_policy.specs.Choices.{denied_of, format_of, package_source_of, severity_named}
use Rattle.rustsec_policy.specs.declared.ignored.Ignored.{Ignored}
use Rattle.rustsec_policy.specs.declared.policy.Policy.{Policy}
use Rattle.rustsec_policy.specs.declared.sections.AdvisoryPolicy.{AdvisoryPolicy}
use Rattle.rustsec_policy.specs.declared.sections.OutputPolicy.{OutputPolicy}
use Rattle.rustsec_policy.specs.declared.sections.TargetPolicy.{TargetPolicy}
use Rattle.rustsec_policy.specs.declared.unused.DatabasePolicy.{DatabasePolicy}
use Rattle.rustsec_policy.specs.declared.unused.PackagePolicy.{PackagePolicy}
use Rattle.rustsec_policy.specs.declared.unused.YankedPolicy.{YankedPolicy}

-- ---- `[advisories]`

-- an ID whose beginning says who assigns it: `RUSTSEC-`, `CVE-`, `GHSA-` or `TALOS-`
abbrev pub known_id : List ℕ → Option IdValue
known_id text = id_of text >>= λ id. only_if (not (kind_eq id.kind kind.Other)) (Some id)

-- an entry of `ignore` that is an ID
abbrev pub ignored_id : List ℕ → Option Ignored
ignored_id text = known_id text >>= λ id. Some (record { id = id; reason = None; until = None })

-- an entry of `ignore` that is a table: an ID, and perhaps a reason, as in cargo-deny's `deny.toml`; and perhaps a last
-- day, which neither cargo-audit nor cargo-deny has
abbrev pub ignored_in : Members → Option Ignored
ignored_in ms = only_if (has_only ignored_keys ms) (
    required (text known_id) (codes "id") ms >>= λ id.
    optional as_str (codes "reason") ms >>= λ reason.
    optional (text date_of) (codes "until") ms >>= λ until.
    Some (record { id = id; reason = reason; until = until }))

-- an entry of `ignore` is an ID or a table
abbrev pub ignored_with : Option (List ℕ) → Data → Option Ignored
ignored_with (Some id) d = ignored_id id
ignored_with None d = as_table d >>= ignored_in

abbrev pub ignored_of : Data → Option Ignored
ignored_of d = ignored_with (as_str d) d

-- whether an entry counts on a day: always, or up to its last day; without a day this is not known for an entry with one
abbrev pub counts_until : Option (List ℕ) → Option (List ℕ) → Option Bool
counts_until None today = Some true
counts_until (Some until) None = None
counts_until (Some until) (Some today) = Some (is_le (slice_cmp nat_cmp today until))

-- the ID of an entry that counts on a day, and none of another entry
abbrev pub id_on : Option (List ℕ) → Ignored → Option (Option IdValue)
id_on today i = counts_until i.until today >>= λ counts. Some (if counts then Some i.id else None)

-- the IDs that are ignored on a day, in order
abbrev pub ids_on : Option (List ℕ) → List Ignored → Option (List IdValue)
ids_on today is = read_all (id_on today) is >>= λ ids. Some (filter_map (λ id. id) ids)

-- what is ignored, which informational advisories give warnings, and the least severity
abbrev pub advisories_in : Members → Option AdvisoryPolicy
advisories_in ms = only_if (has_only advisory_keys ms) (
    defaulted [] (every ignored_of) (codes "ignore") ms >>= λ ignore.
    optional (every (text (λ t. Some (informational_of t)))) (codes "informational_warnings") ms >>= λ warnings.
    optional (text severity_named) (codes "severity_threshold") ms >>= λ threshold.
    Some (record { ignore = ignore; informational_warnings = warnings; severity_threshold = threshold }))

-- ---- `[output]`

abbrev pub output_in : Members → Option OutputPolicy
output_in ms = only_if (has_only output_keys ms) (
    defaulted [] (every (text denied_of)) (codes "deny") ms >>= λ deny.
    optional (text format_of) (codes "format") ms >>= λ format.
    optional as_bool (codes "quiet") ms >>= λ quiet.
    optional as_bool (codes "show_tree") ms >>= λ show_tree.
    Some (record { deny = deny; format = format; quiet = quiet; show_tree = show_tree }))

-- ---- `[target]`

-- one word, or a list of words
abbrev pub words_with : {A : Type 0} → (List ℕ → Option A) → Option (List ℕ) → Data → Option (List A)
words_with f (Some word) d = f word >>= λ x. Some (x ∷ [])
words_with f None d = every (text f) d

abbrev pub words_of : {A : Type 0} → (List ℕ → Option A) → Data → Option (List A)
words_of f d = words_with f (as_str d) d

abbrev pub target_in : Members → Option TargetPolicy
target_in ms = only_if (has_only target_keys ms) (
    defaulted [] (words_of arch_of) (codes "arch") ms >>= λ arch.
    defaulted [] (words_of os_of) (codes "os") ms >>= λ os.
    Some (record { arch = arch; os = os }))

-- ---- `[database]` and `[packages]`, which this library does not follow, and `[yanked]`

abbrev pub database_in : Members → Option DatabasePolicy
database_in ms = only_if (has_only database_keys ms) (
    optional as_str (codes "path") ms >>= λ path.
    optional as_str (codes "url") ms >>= λ url.
    optional as_bool (codes "fetch") ms >>= λ fetch.
    optional as_bool (codes "stale") ms >>= λ stale.
    Some (record { path = path; url = url; fetch = fetch; stale = stale }))

abbrev pub packages_in : Members → Option PackagePolicy
packages_in ms = only_if (has_only package_keys ms) (
    optional (text package_source_of) (codes "source") ms >>= λ source.
    Some (record { source = source }))

abbrev pub yanked_in : Members → Option YankedPolicy
yanked_in ms = only_if (has_only yanked_keys ms) (
    optional as_bool (codes "enabled") ms >>= λ enabled.
    optional as_str (codes "index") ms >>= λ index.
    optional as_bool (codes "update_index") ms >>= λ update_index.
    Some (record { enabled = enabled; index = index; update_index = update_index }))

-- the folder of the index that is asked: as `index` says, unless `enabled` is false
abbrev pub index_of : YankedPolicy → Option (List ℕ)
index_of y = if unwrap_or y.enabled true then y.index else None

-- ---- the file

-- what a file without a table says
abbrev pub no_advisories : AdvisoryPolicy
no_advisories = record { ignore = []; informational_warnings = None; severity_threshold = None }

abbrev pub no_output : OutputPolicy
no_output = record { deny = []; format = None; quiet = None; show_tree = None }

abbrev pub no_target : TargetPolicy
no_target = record { arch = []; os = [] }

abbrev pub no_database : DatabasePolicy
no_database = record { path = None; url = None; fetch = None; stale = None }

abbrev pub no_packages : PackagePolicy
no_packages = record { source = None }

abbrev pub no_yanked : YankedPolicy
no_yanked = record { enabled = None; index = None; update_index = None }

-- the table at a key, or a value for a missing one
abbrev pub section_at : {A : Type 0} → A → (Members → Option A) → List ℕ → Members → Option A
section_at none read key ms = defaulted none (λ d. as_table d >>= read) key ms

abbrev pub policy_in : Members → Option Policy
policy_in ms = only_if (has_only section_keys ms) (
    section_at no_advisories advisories_in (codes "advisories") ms >>= λ advisories.
    section_at no_output output_in (codes "output") ms >>= λ output.
    section_at no_target target_in (codes "target") ms >>= λ target.
    section_at no_database database_in (codes "database") ms >>= λ database.
    section_at no_packages packages_in (codes "packages") ms >>= λ packages.
    section_at no_yanked yanked_in (codes "yanked") ms >>= λ yanked.
    Some (record {
      advisories = advisories;
      output = output;
      target = target;
      database = database;
      packages = packages;
      yanked = yanked;
    }))

-- the policy of a file's text
abbrev pub policy_of : List ℕ → Option Policy
policy_of text = parse_document text >>= policy_in
