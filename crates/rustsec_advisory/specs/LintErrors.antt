-- The lint errors that a linter finds in an advisory: for each key of its document, in the order of the keys' bytes,
-- the rows for the key, its value and the advisory.
use Rattle.std.specs.Prelude.{ℕ, ◌++◌, Bool, true, false, not, ◌&&◌, ◌||◌, List, [], ◌∷◌, Option, Some, None, codes, flat_map, is_some, map, nat_eq, if◌then◌else◌, ◌==◌}
use Rattle.std.specs.Cmp.Lexicographic.{pointwise}
use Rattle.std.specs.List.{list_any, starts_with}
use Rattle.std.specs.Map.{keys_of}
use Rattle.std.specs.Str.{bytes_eq}
use Rattle.toml.specs.Data.{Data, string, table, Members}
use Rattle.toml_writer.specs.Text.{string_text}
use Rattle.rustsec_texts.specs.Categories.{category_name}
use Rattle.rustsec_texts.specs.Dates.{Day, day_of}
use Rattle.rustsec_texts.specs.IdOrder.{kind_eq}
use Rattle.rustsec_texts.specs.Ids.{is_placeholder}
use Rattle.rustsec_texts.specs.Informational.{informational_name, is_other_kind}
use Rattle.rustsec_texts.specs.Licenses.{license_name}
use Rattle.rustsec_texts.specs.Paths.{path_text}
use Rattle.rustsec_texts.specs.declared.category.Category.{Category}
use Rattle.rustsec_texts.specs.declared.category.Category.TheVariants as category
use Rattle.rustsec_texts.specs.declared.id_kind.IdKind.{IdKind}
use Rattle.rustsec_texts.specs.declared.id_kind.IdKind.TheVariants as id_kind
use Rattle.rustsec_texts.specs.declared.informational.Informational.{Informational}
use Rattle.rustsec_texts.specs.declared.license.License.{License}
use Rattle.rustsec_texts.specs.declared.license.License.TheVariants as license
use Rattle.rustsec_advisory.specs.Affected.{members_of}
use Rattle.rustsec_advisory.specs.declared.advisory.Advisory.{Advisory}
use Rattle.rustsec_advisory.specs.declared.affected.Affected.{Affected}
use Rattle.rustsec_advisory.specs.declared.linter.ErrorKind.{ErrorKind}
use Rattle.rustsec_advisory.specs.declared.linter.ErrorKind.TheVariants as kind
use Rattle.rustsec_advisory.specs.declared.metadata.Metadata.{Metadata}

-- a lint error: its kind, its section, and a message
pub record LintError : Type 0 where
  pub kind : ErrorKind
  pub section : Option (List ℕ)
  pub message : Option (List ℕ)

-- one lint error, if a test holds
abbrev pub when : Bool → LintError → List LintError
when test error = if test then error ∷ [] else []

-- a key without a meaning at its place
abbrev pub unknown_key : Option (List ℕ) → List ℕ → LintError
unknown_key section key = record { kind = kind.InvalidKey key; section = section; message = None }

-- a value that a key does not accept
abbrev pub bad_value : List ℕ → List ℕ → List ℕ → List ℕ → LintError
bad_value section key value message = record { kind = kind.InvalidValue key value; section = Some section; message = Some message }

-- content that a section should not have
abbrev pub bad_content : List ℕ → List ℕ → LintError
bad_content section message = record { kind = kind.Malformed; section = Some section; message = Some message }

-- the members of a value that is a table
abbrev pub members_in : Data → List (List ℕ × Data)
members_in (table ms) = members_of ms
members_in _ = []

-- ---- the section `advisory`

abbrev pub advisory_value : List ℕ → List ℕ → List ℕ → LintError
advisory_value = bad_value (codes "advisory")

-- whether a flag is given and differs from a fact
abbrev pub differs : Option Bool → Bool → Bool
differs None fact = false
differs (Some flag) fact = if flag then not fact else fact

-- whether an ID is of no known kind
abbrev pub is_other_id : IdKind → Bool
is_other_id k = kind_eq k id_kind.Other

-- whether an ID of this kind must have the year of the date
abbrev pub shares_year : IdKind → Bool
shares_year id_kind.RustSec = true
shares_year id_kind.Cve = false
shares_year id_kind.Ghsa = true
shares_year id_kind.Talos = true
shares_year id_kind.Other = false

-- whether two years are given and differ
abbrev pub years_differ : Option ℕ → Option Day → Bool
years_differ None d = false
years_differ (Some year) None = false
years_differ (Some year) (Some d) = not (year == d.year)

-- the rows of `id`, with the text of its value: for drafts, for its kind, for its year
abbrev pub draft_row : Option Bool → Metadata → List ℕ → List LintError
draft_row draft m printed =
    when (differs draft (is_placeholder m.id.text)) (advisory_value (codes "id") printed (codes "advisory ID draft status does not match file name"))

abbrev pub kind_row : Metadata → List ℕ → List LintError
kind_row m printed = when (is_other_id m.id.kind) (advisory_value (codes "id") printed (codes "unknown advisory ID type"))

abbrev pub year_row : Metadata → List ℕ → List LintError
year_row m printed =
    when (shares_year m.id.kind && years_differ m.id.year (day_of m.date)) (advisory_value (codes "id") printed (codes "year in advisory ID does not match date"))

abbrev pub id_rows : Option Bool → Metadata → List ℕ → List LintError
id_rows draft m printed = draft_row draft m printed ++ (kind_row m printed ++ year_row m printed)

-- whether a category is not one of the table
abbrev pub is_other_category : Category → Bool
is_other_category (category.Other text) = true
is_other_category _ = false

-- the row of a category
abbrev pub category_row : Category → List LintError
category_row c = when (is_other_category c) (advisory_value (codes "category") (category_name c) (codes "unknown category"))

-- the row of `informational`
abbrev pub informational_row : Option Informational → List LintError
informational_row None = []
informational_row (Some i) = when (is_other_kind i) (advisory_value (codes "informational") (informational_name i) (codes "unknown informational advisory type"))

-- the row of `url`, for its text as written
abbrev pub url_row : List ℕ → List LintError
url_row text = when (not (starts_with nat_eq text (codes "https://"))) (advisory_value (codes "url") (string_text text) (codes "URL must start with https://"))

-- whether a license is not one of the table
abbrev pub is_other_license : License → Bool
is_other_license (license.Other text) = true
is_other_license _ = false

-- the row of `license`
abbrev pub license_row : License → List LintError
license_row l = when (is_other_license l) (advisory_value (codes "license") (license_name l) (codes "Unknown license"))

-- a lint error for a string, none for another value
abbrev pub of_string : (List ℕ → List LintError) → Data → List LintError
of_string rows (string text) = rows text
of_string rows _ = []

-- the keys of the section that have a meaning and no row
abbrev pub quiet_keys : List (List ℕ)
quiet_keys = codes "aliases" ∷ codes "cvss" ∷ codes "date" ∷ codes "description" ∷ codes "expect-deleted" ∷ codes "keywords" ∷ codes "package"
    ∷ codes "references" ∷ codes "related" ∷ codes "source" ∷ codes "title" ∷ codes "withdrawn" ∷ []

abbrev pub is_one_of : List (List ℕ) → List ℕ → Bool
is_one_of keys key = list_any (bytes_eq key) keys

-- the rows of a key of the section
abbrev pub advisory_rows : Option Bool → Metadata → List ℕ × Data → List LintError
advisory_rows draft m entry =
    if bytes_eq entry.0 (codes "id") then of_string (λ text. id_rows draft m (string_text text)) entry.1
    else if bytes_eq entry.0 (codes "categories") then flat_map category_row m.categories
    else if bytes_eq entry.0 (codes "collection") then bad_content (codes "advisory") (codes "collection shouldn't be explicit; inferred by location") ∷ []
    else if bytes_eq entry.0 (codes "informational") then informational_row m.informational
    else if bytes_eq entry.0 (codes "url") then of_string url_row entry.1
    else if bytes_eq entry.0 (codes "yanked") then
    when (not (is_some m.withdrawn)) (bad_content (codes "metadata") (codes "Field `yanked` is deprecated, use `withdrawn` field instead"))
    else if bytes_eq entry.0 (codes "license") then license_row m.license
    else when (not (is_one_of quiet_keys entry.0)) (unknown_key (Some (codes "advisory")) entry.0)

-- ---- the section `affected`

-- the name of a package as paths of its functions begin: with `_` for `-`
abbrev pub crate_name_of : List ℕ → List ℕ
crate_name_of name = map (λ b. if b == 45 then 95 else b) name

-- whether a path begins with this name
abbrev pub begins_with : List ℕ → List (List ℕ) → Bool
begins_with name [] = false
begins_with name (first ∷ rest) = pointwise nat_eq first name

-- the row of a function of a crate
abbrev pub function_row : List ℕ → List (List ℕ) → List LintError
function_row name path = when (not (begins_with name path))
    (bad_value (codes "affected") (codes "functions") (path_text path) (codes "function path must start with crate name"))

-- the paths of an advisory's functions, in their order
abbrev pub paths_in : Option Affected → List (List (List ℕ))
paths_in None = []
paths_in (Some a) = keys_of a.functions

-- the keys of the section that name platforms
abbrev pub platform_keys : List (List ℕ)
platform_keys = codes "arch" ∷ codes "os" ∷ []

-- the rows of a key of the section
abbrev pub affected_rows : Advisory → List ℕ → List LintError
affected_rows a key =
    if bytes_eq key (codes "functions") then flat_map (function_row (crate_name_of a.metadata.«package»)) (paths_in a.affected)
    else when (not (is_one_of platform_keys key)) (unknown_key (Some (codes "affected")) key)

-- ---- the section `versions`

abbrev pub versions_rows : List ℕ → List LintError
versions_rows key = when (not (is_one_of (codes "patched" ∷ codes "unaffected" ∷ []) key)) (unknown_key (Some (codes "versions")) key)

-- ---- the document

-- the rows of a key at the top with these members below it
abbrev pub section_rows : Option Bool → Advisory → List ℕ → List (List ℕ × Data) → List LintError
section_rows draft a key members =
    if bytes_eq key (codes "advisory") then flat_map (advisory_rows draft a.metadata) members
    else if bytes_eq key (codes "affected") then flat_map (λ e. affected_rows a e.0) members
    else if bytes_eq key (codes "versions") then flat_map (λ e. versions_rows e.0) members
    else unknown_key None key ∷ []

-- the rows of a key at the top
abbrev pub top_rows : Option Bool → Advisory → List ℕ × Data → List LintError
top_rows draft a entry = section_rows draft a entry.0 (members_in entry.1)

-- the lint errors of a document and its advisory
abbrev pub lint_errors : Option Bool → Members → Advisory → List LintError
lint_errors draft document a = flat_map (top_rows draft a) (members_of document)

-- ---- how lint errors print

abbrev pub kind_text : ErrorKind → List ℕ
kind_text kind.Malformed = codes "malformed content"
kind_text (kind.InvalidKey name) = codes "invalid key `" ++ (name ++ codes "`")
kind_text (kind.InvalidValue name value) = codes "invalid value `" ++ (value ++ (codes "` for key `" ++ (name ++ codes "`")))

abbrev pub section_text : Option (List ℕ) → List ℕ
section_text None = codes " in toplevel"
section_text (Some section) = codes " in [" ++ (section ++ codes "]")

abbrev pub message_text : Option (List ℕ) → List ℕ
message_text None = []
message_text (Some message) = codes ": " ++ message

abbrev pub lint_error_text : LintError → List ℕ
lint_error_text f = kind_text f.kind ++ (section_text f.section ++ message_text f.message)
