-- The output of `stats`.
use Rattle.std.specs.Prelude.{◌≡◌, ◌≢◌, ℕ, List, [], ◌∷◌, Option, Some, None, if◌then◌else◌}
use Rattle.rustsec_files.specs.Allowed.{Allowed}
use Rattle.rustsec_values.specs.Failure.{Failure}
use Rattle.rustsec_values.specs.declared.error.ErrorKind.TheVariants as kind
use Rattle.rustsec_advisory.specs.declared.advisory.Advisory.{Advisory}
use Rattle.rustsec_database.specs.Opened.{AreOpened, IsOpenRefusal}
use Rattle.rustsec_stats.specs.Stats.{stats_of}
use Rattle.rustsec_stats.specs.StatsText.{stats_text}
use Rattle.rustsec_stats.specs.StatsTree.{stats_tree}
use Rattle.rustsec_commands.specs.Output.{Output, refused_as, usage}
use Rattle.rustsec_json.specs.Lines.{tree_line}
use Rattle.rustsec_database_commands.specs.Lint.{form_named}
use Rattle.rustsec_database_commands.specs.Options.{is_format}
use Rattle.rustsec_database_commands.specs.declared.form.Form.{Form}
use Rattle.rustsec_database_commands.specs.declared.form.Form.TheVariants as form

-- the name of the form that the words ask for, if any; `None` for words that are not `--format` and a name
abbrev pub asked_form : List (List ℕ) → Option (Option (List ℕ))
asked_form [] = Some None
asked_form (word ∷ []) = None
asked_form (word ∷ name ∷ []) = if is_format word then Some (Some name) else None
asked_form (word ∷ name ∷ other ∷ words) = None

abbrev pub stats_text_in : Form → List Advisory → List ℕ
stats_text_in form.Text advisories = stats_text (stats_of advisories)
stats_text_in form.Json advisories = tree_line (stats_tree (stats_of advisories))

-- the output for the advisories of a database
abbrev pub stats_output : Form → List Advisory → Output
stats_output f advisories = record { text = stats_text_in f advisories; status = 0 }

-- an output for the database under a root, or the kind of its refusal
pub data IsCounted (allowed : Allowed) (root : List ℕ) (f : Form) (o : Output) : Type 0 where
  counted : (advisories : List Advisory) → AreOpened allowed root advisories → o ≡ stats_output f advisories → IsCounted allowed root f o
  refused : (e : Failure) → IsOpenRefusal allowed root e → e.kind ≢ kind.OutOfMemory → o ≡ refused_as e.kind → IsCounted allowed root f o

-- the same, or that the form is unknown
abbrev pub IsCountedIn : Allowed → List ℕ → Option Form → Output → Type 0
IsCountedIn allowed root None o = o ≡ refused_as kind.Parse
IsCountedIn allowed root (Some f) o = IsCounted allowed root f o

-- the same, or that the words are not options
abbrev pub IsCountedBy : Allowed → List ℕ → Option (Option (List ℕ)) → Output → Type 0
IsCountedBy allowed root None o = o ≡ usage
IsCountedBy allowed root (Some name) o = IsCountedIn allowed root (form_named name) o

-- an output of `stats` for a root and the words after it
abbrev pub IsStatsOutput : Allowed → List ℕ → List (List ℕ) → Output → Type 0
IsStatsOutput allowed root words o = IsCountedBy allowed root (asked_form words) o
