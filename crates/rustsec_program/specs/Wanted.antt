-- How the policy of a file and the words of a command join.
use Rattle.std.specs.Prelude.{◌≡◌, ◌⊎◌, ◌++◌, ◌&&◌, not, ℕ, Bool, true, false, List, [], ◌∷◌, Option, Some, None, codes, is_some, unwrap_or}
use Rattle.std.specs.List.{list_any}
use Rattle.rustsec_values.specs.ClosedTables.{from_name}
use Rattle.rustsec_values.specs.Reading.{◌>>=◌, read_all, read_optional}
use Rattle.rustsec_files.specs.Allowed.{Allowed}
use Rattle.rustsec_values.specs.Failure.{Failure, IsRefusal}
use Rattle.rustsec_values.specs.declared.error.ErrorKind.TheVariants as kind
use Rattle.rustsec_lock.specs.Platforms.{arch_of, os_of}
use Rattle.rustsec_texts.specs.Dates.{date_of}
use Rattle.rustsec_texts.specs.Ids.{IdValue, id_of}
use Rattle.rustsec_texts.specs.declared.informational.Informational.{Informational}
use Rattle.rustsec_texts.specs.declared.informational.Informational.TheVariants as informational
use Rattle.rustsec_policy.specs.Notes.{is_yanked, notes_of}
use Rattle.rustsec_policy.specs.Policies.{ids_on, index_of, policy_of}
use Rattle.rustsec_policy.specs.Choices.{denied_of, severity_named}
use Rattle.rustsec_policy.specs.declared.policy.Policy.{Policy}
use Rattle.rustsec_policy.specs.declared.choices.Denied.{Denied}
use Rattle.rustsec_policy.specs.declared.choices.OutputFormat.{OutputFormat}
use Rattle.rustsec_policy.specs.declared.choices.OutputFormat.TheVariants as format
use Rattle.rustsec_report.specs.declared.settings.Settings.{Settings}
use Rattle.rustsec_program.specs.CheckOptions.{CheckOption, last_value, values_of}
use Rattle.rustsec_program.specs.Notes.{note_if}
use Rattle.rustsec_program.specs.declared.keys.Key.TheVariants as key
use Rattle.rustsec_program.specs.declared.request.Request.{Request}
use Rattle.rustsec_program.specs.declared.shapes.Coloring.{Coloring}
use Rattle.rustsec_program.specs.declared.shapes.Coloring.TheVariants as coloring
use Rattle.rustsec_program.specs.declared.shapes.Shape.{Shape}
use Rattle.rustsec_program.specs.declared.shapes.Shape.TheVariants as shape
use Rattle.rustsec_program.specs.declared.wanted.Wanted.{Wanted}

-- ---- the words

-- how findings are written: for people, as JSON, as a log of SARIF, as a web page, or as Markdown
abbrev pub shape_name : Shape → List ℕ
shape_name shape.Text = codes "text"
shape_name shape.Json = codes "json"
shape_name shape.Sarif = codes "sarif"
shape_name shape.Html = codes "html"
shape_name shape.Markdown = codes "markdown"

abbrev pub shapes : List Shape
shapes = shape.Text ∷ shape.Json ∷ shape.Sarif ∷ shape.Html ∷ shape.Markdown ∷ []

abbrev pub shape_of : List ℕ → Option Shape
shape_of = from_name shape_name shapes

-- whether the text for people has colors
abbrev pub coloring_name : Coloring → List ℕ
coloring_name coloring.Always = codes "always"
coloring_name coloring.Never = codes "never"

abbrev pub colorings : List Coloring
colorings = coloring.Always ∷ coloring.Never ∷ []

abbrev pub coloring_of : List ℕ → Option Coloring
coloring_of = from_name coloring_name colorings

-- what the options say; `None` if a value is refused
abbrev pub request_of : List CheckOption → Option Request
request_of options =
    read_all id_of (values_of key.Ignore options) >>= λ ignored.
    read_all denied_of (values_of key.Deny options) >>= λ denied.
    read_optional severity_named (last_value key.Severity options) >>= λ severity.
    read_all arch_of (values_of key.Arch options) >>= λ arch.
    read_all os_of (values_of key.Os options) >>= λ os.
    read_optional date_of (last_value key.Today options) >>= λ today.
    read_optional shape_of (last_value key.Format options) >>= λ shape.
    read_optional coloring_of (last_value key.Color options) >>= λ color.
    Some (record {
      ignored = ignored;
      denied = denied;
      severity = severity;
      arch = arch;
      os = os;
      today = today;
      shape = shape;
      color = color;
      index = last_value key.Index options;
    })

-- ---- the policy

-- the text of the policy: that of its file, or the empty text if no file is named
abbrev pub IsPolicyText : Allowed → Option (List ℕ) → List ℕ → Type 0
IsPolicyText allowed None text = text ≡ []
IsPolicyText allowed (Some path) text = allowed.reads path (Some text)

-- the file of the policy cannot be read
abbrev pub FailsAtPolicy : Allowed → Option (List ℕ) → Type 0
FailsAtPolicy allowed None = ⊥
FailsAtPolicy allowed (Some path) = allowed.reads path None

abbrev pub IsPolicyAt : Allowed → Option (List ℕ) → Policy → Type 0
IsPolicyAt allowed path p = (text : List ℕ) × (IsPolicyText allowed path text × (policy_of text ≡ Some p))

-- how a policy is refused: its file cannot be read, or its text is not a policy
abbrev pub IsPolicyRefusal : Allowed → Option (List ℕ) → Failure → Type 0
IsPolicyRefusal allowed path e =
    IsRefusal kind.Io (FailsAtPolicy allowed path) e
    ⊎ ((text : List ℕ) × (IsPolicyText allowed path text × IsRefusal kind.Parse (policy_of text ≡ None) e))

-- ---- both together

-- the value of a word, or else that of the policy
abbrev pub or_else : {A : Type 0} → Option A → Option A → Option A
or_else (Some x) other = Some x
or_else None other = other

-- the kinds of informational advisories that give warnings if the policy does not say
abbrev pub usual_kinds : List Informational
usual_kinds = informational.Notice ∷ informational.Unmaintained ∷ informational.Unsound ∷ []

-- how a policy wants findings to be written
abbrev pub shape_by : OutputFormat → Shape
shape_by format.Terminal = shape.Text
shape_by format.Json = shape.Json
shape_by format.Sarif = shape.Sarif

abbrev pub policy_shape : Option OutputFormat → Shape
policy_shape None = shape.Text
policy_shape (Some f) = shape_by f

abbrev pub has_colors : Option Coloring → Bool
has_colors None = false
has_colors (Some coloring.Always) = true
has_colors (Some coloring.Never) = false

-- the settings of a check, by the IDs that the policy ignores on the day: the policy's values, then those of the words; a word's severity counts before the policy's
abbrev pub settings_of : Policy → Request → List IdValue → Settings
settings_of p r ids = record {
  target_arch = p.target.arch ++ r.arch;
  target_os = p.target.os ++ r.os;
  severity = or_else r.severity p.advisories.severity_threshold;
  ignore = ids ++ r.ignored;
  informational_warnings = unwrap_or p.advisories.informational_warnings usual_kinds;
}

-- the folder of the index that is asked: a word's, or else the policy's
abbrev pub index_by : Policy → Request → Option (List ℕ)
index_by p r = or_else r.index (index_of p.yanked)

-- the note on a word that denies yanked packages, if no index is asked
abbrev pub word_notes : Bool → List Denied → List (List ℕ)
word_notes has_index words =
    note_if (not has_index && list_any is_yanked words) (codes "`--deny yanked` denies nothing without an index: no package is looked up")

-- what is wanted; `None` if an entry of the policy has a last day and the words name no day
abbrev pub wanted : Policy → Request → Option Wanted
wanted p r = ids_on r.today p.advisories.ignore >>= λ ids. Some (record {
  settings = settings_of p r ids;
  denied = p.output.deny ++ r.denied;
  shape = unwrap_or r.shape (policy_shape p.output.format);
  colored = has_colors r.color;
  index = index_by p r;
  notes = notes_of (is_some (index_by p r)) p ++ word_notes (is_some (index_by p r)) r.denied;
})
