-- The outputs of `osv-database` and `query-osv`.
use Rattle.std.specs.Prelude.{◌≡◌, ◌≢◌, ◌||◌, ℕ, Bool, List, Option, Some, None, codes, if◌then◌else◌, nat_eq}
use Rattle.std.specs.List.{list_all, list_any, starts_with}
use Rattle.std.specs.Str.{bytes_eq}
use Rattle.semver.specs.Parse.{Parts, version_parts}
use Rattle.rustsec_values.specs.Reading.{value_of}
use Rattle.rustsec_files.specs.Allowed.{Allowed}
use Rattle.rustsec_values.specs.Failure.{Failure}
use Rattle.rustsec_values.specs.declared.error.ErrorKind.TheVariants as kind
use Rattle.rustsec_lock.specs.Names.{name_of}
use Rattle.rustsec_advisory.specs.declared.advisory.Advisory.{Advisory}
use Rattle.rustsec_database.specs.Opened.{AreOpened, IsOpenRefusal}
use Rattle.rustsec_osv_database.specs.Answers.{HasNoAnswer, IsAnswerOf}
use Rattle.rustsec_osv_database.specs.Lines.{AreParts}
use Rattle.rustsec_osv_database.specs.declared.exported.Choice.{Choice}
use Rattle.rustsec_commands.specs.Output.{Output, refused_as, usage}

-- ---- options

abbrev pub is_skip : List ℕ → Bool
is_skip word = bytes_eq word (codes "--skip-withdrawn")

abbrev pub is_normalized : List ℕ → Bool
is_normalized word = bytes_eq word (codes "--normalized")

abbrev pub is_osv_option : List ℕ → Bool
is_osv_option word = is_skip word || is_normalized word

-- what the words choose, if each of them is an option
abbrev pub choice_of : List (List ℕ) → Option Choice
choice_of words =
    if list_all is_osv_option words then Some (record { skip_withdrawn = list_any is_skip words; normalized = list_any is_normalized words })
    else None

-- whether a text has the form of an option: whether it begins with two hyphens
abbrev pub is_option_form : List ℕ → Bool
is_option_form text = starts_with nat_eq text (codes "--")

-- the same, if the text for the time of the last change has not the form of an option
abbrev pub choice_for : List ℕ → List (List ℕ) → Option Choice
choice_for modified words = if is_option_form modified then None else choice_of words

-- ---- osv-database

-- status 1 if an advisory has no document, though it is not left out
abbrev pub status_for : Bool → ℕ
status_for missing = if missing then 1 else 0

-- an output for the database under a root, or the kind of its refusal
pub data IsExported (allowed : Allowed) (root modified : List ℕ) (c : Choice) (o : Output) : Type 0 where
  exported : (advisories : List Advisory) (text : List ℕ) (missing : Bool) → AreOpened allowed root advisories → AreParts c modified advisories text missing
      → o ≡ record { text = text; status = status_for missing } → IsExported allowed root modified c o
  refused : (e : Failure) → IsOpenRefusal allowed root e → e.kind ≢ kind.OutOfMemory → o ≡ refused_as e.kind → IsExported allowed root modified c o

-- the same, or that the words are not options, or that an option is where the time is expected
abbrev pub IsExportedBy : Allowed → List ℕ → List ℕ → Option Choice → Output → Type 0
IsExportedBy allowed root modified None o = o ≡ usage
IsExportedBy allowed root modified (Some c) o = IsExported allowed root modified c o

-- an output of `osv-database` for a root, the time of the last change and the words after it
abbrev pub IsDatabaseOutput : Allowed → List ℕ → List ℕ → List (List ℕ) → Output → Type 0
IsDatabaseOutput allowed root modified words o = IsExportedBy allowed root modified (choice_for modified words) o

-- ---- query-osv

-- the output of an answer
abbrev pub answer_output : List ℕ → Output
answer_output text = record { text = text; status = 0 }

-- an output for a version of a package and the database under a root: an answer, or that an advisory that affects the version has no document; or
-- the kind of the database's refusal
pub data IsAnswered (allowed : Allowed) (root name : List ℕ) (version : Parts) (o : Output) : Type 0 where
  answered : (advisories : List Advisory) (text : List ℕ) → AreOpened allowed root advisories → IsAnswerOf name version advisories text
      → o ≡ answer_output text → IsAnswered allowed root name version o
  unanswered : (advisories : List Advisory) → AreOpened allowed root advisories → HasNoAnswer name version advisories → o ≡ refused_as kind.BadParam
      → IsAnswered allowed root name version o
  refused : (e : Failure) → IsOpenRefusal allowed root e → e.kind ≢ kind.OutOfMemory → o ≡ refused_as e.kind → IsAnswered allowed root name version o

-- the same, or that one of the texts is not a name or not a version
abbrev pub IsAnsweredFor : Allowed → List ℕ → Option (List ℕ) → Option Parts → Output → Type 0
IsAnsweredFor allowed root None version o = o ≡ refused_as kind.Parse
IsAnsweredFor allowed root (Some name) None o = o ≡ refused_as kind.Parse
IsAnsweredFor allowed root (Some name) (Some version) o = IsAnswered allowed root name version o

-- an output of `query-osv` for a root and the texts of a name and a version
abbrev pub IsQueryOutput : Allowed → List ℕ → List ℕ → List ℕ → Output → Type 0
IsQueryOutput allowed root name version o = IsAnsweredFor allowed root (name_of name) (value_of (version_parts version)) o
