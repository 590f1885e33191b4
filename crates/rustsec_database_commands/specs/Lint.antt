-- The output of `lint-database`.
use Rattle.std.specs.Prelude.{◌≡◌, ◌==◌, ℕ, Bool, List, [], ◌∷◌, Option, Some, None, codes, if◌then◌else◌, length}
use Rattle.rustsec_values.specs.ClosedTables.{from_name}
use Rattle.rustsec_files.specs.Allowed.{Allowed}
use Rattle.rustsec_files.specs.Listed.{Paths}
use Rattle.rustsec_values.specs.declared.error.ErrorKind.TheVariants as kind
use Rattle.rustsec_lint_database.specs.Counts.{faults, notes}
use Rattle.rustsec_lint_database.specs.Entries.{AreEntries}
use Rattle.rustsec_lint_database.specs.declared.counts.Counts.{Counts}
use Rattle.rustsec_lint_database.specs.declared.database.Entry.{Entry}
use Rattle.rustsec_lint_output.specs.LintText.{lint_text}
use Rattle.rustsec_lint_output.specs.LintTree.{lint_tree}
use Rattle.rustsec_commands.specs.Output.{Output, refused_as, usage}
use Rattle.rustsec_json.specs.Lines.{tree_line}
use Rattle.rustsec_database_commands.specs.Options.{AskedValue, asked_of}
use Rattle.rustsec_database_commands.specs.declared.form.Form.{Form}
use Rattle.rustsec_database_commands.specs.declared.form.Form.TheVariants as form

-- ---- the form

abbrev pub form_name : Form → List ℕ
form_name form.Text = codes "text"
form_name form.Json = codes "json"

abbrev pub forms : List Form
forms = form.Text ∷ form.Json ∷ []

-- the form of a name, and text without one; `None` if the name is unknown
abbrev pub form_named : Option (List ℕ) → Option Form
form_named None = Some form.Text
form_named (Some name) = from_name form_name forms name

-- ---- the files

-- how many files, faults and notes there are
abbrev pub counts_in : Bool → List Entry → Counts
counts_in upstream es = record { files = length es; faults = faults upstream es; notes = notes upstream es }

abbrev pub entries_text : Form → Bool → List Entry → List ℕ
entries_text form.Text upstream es = lint_text (counts_in upstream es) es
entries_text form.Json upstream es = tree_line (lint_tree upstream (counts_in upstream es) es)

-- status 1 if anything is wrong
abbrev pub status_of : ℕ → ℕ
status_of faults = if faults == 0 then 0 else 1

-- the output for the files of a database
abbrev pub entries_output : Form → Bool → List Entry → Output
entries_output f upstream es = record { text = entries_text f upstream es; status = status_of (faults upstream es) }

-- ---- outputs

-- an output for the files under a root, or that a folder cannot be listed
pub data IsLinted (allowed : Allowed) (root : List ℕ) (f : Form) (upstream : Bool) (o : Output) : Type 0 where
  linted : (entries : List Entry) → AreEntries allowed root entries → o ≡ entries_output f upstream entries → IsLinted allowed root f upstream o
  unlisted : Paths allowed root None → o ≡ refused_as kind.Io → IsLinted allowed root f upstream o

-- the same, or that the form is unknown
abbrev pub IsLintedIn : Allowed → List ℕ → Option Form → Bool → Output → Type 0
IsLintedIn allowed root None upstream o = o ≡ refused_as kind.Parse
IsLintedIn allowed root (Some f) upstream o = IsLinted allowed root f upstream o

-- the same, or that the words are not options
abbrev pub IsLintedBy : Allowed → List ℕ → Option AskedValue → Output → Type 0
IsLintedBy allowed root None o = o ≡ usage
IsLintedBy allowed root (Some a) o = IsLintedIn allowed root (form_named a.format) a.upstream o

-- an output of `lint-database` for a root and the words after it
abbrev pub IsLintOutput : Allowed → List ℕ → List (List ℕ) → Output → Type 0
IsLintOutput allowed root words o = IsLintedBy allowed root (asked_of words) o
