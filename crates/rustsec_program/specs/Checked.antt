-- What is written of the check of a lockfile.
use Rattle.std.specs.Prelude.{◌≡◌, ◌≢◌, ◌⊎◌, ◌==◌, ◌&&◌, ◌||◌, ◌++◌, not, ℕ, Bool, true, false, List, [], Option, None, Some, if◌then◌else◌, length}
use Rattle.rustsec_files.specs.Allowed.{Allowed}
use Rattle.rustsec_values.specs.Failure.{Failure, IsRefusal}
use Rattle.rustsec_values.specs.declared.error.ErrorKind.TheVariants as kind
use Rattle.rustsec_advisory.specs.declared.advisory.Advisory.{Advisory}
use Rattle.rustsec_check.specs.Checks.{IsCheckOf}
use Rattle.rustsec_check.specs.Findings.{fails}
use Rattle.rustsec_check.specs.Values.{CheckValue, SubjectValue, YankedValue}
use Rattle.rustsec_check.specs.Yanked.{AreYanked, yanked_fails}
use Rattle.rustsec_check_output.specs.CheckText.{check_text}
use Rattle.rustsec_check_output.specs.CheckTree.{DatedValue, WrittenValue, check_tree, dated_of, many_tree, refused_tree}
use Rattle.rustsec_json.specs.Lines.{tree_line}
use Rattle.rustsec_commands.specs.Output.{Output, refused_as}
use Rattle.rustsec_registry.specs.declared.index.yanked.YankedPackages.{YankedPackages}
use Rattle.rustsec_markdown.specs.MarkdownText.{markdown_text}
use Rattle.rustsec_page.specs.Page.{IsPage}
use Rattle.rustsec_toml.specs.Places.{ArePackages, skip_mark}
use Rattle.rustsec_toml.specs.declared.place.Place.{Place}
use Rattle.rustsec_sarif.specs.SarifTree.{sarif_tree}
use Rattle.rustsec_program.specs.Locked.{AreLoadedAt, IsLoadRefusal, LoadedValue, Places}
use Rattle.rustsec_program.specs.Notes.{dependency_notes, empty_notes, kind_notes, source_notes}
use Rattle.rustsec_program.specs.Plan.{PlanValue}
use Rattle.rustsec_program.specs.declared.shapes.Shape.{Shape}
use Rattle.rustsec_program.specs.declared.shapes.Shape.TheVariants as shape

-- ---- forms

-- the forms of an answer: text for people, with or without colors; JSON; a log of SARIF about the lockfile at a path; a web
-- page; Markdown; or the line of JSON for the lockfile at a path among many
pub data Form : Type 0 where
  text : Bool → Form
  json : Form
  sarif : List ℕ → Form
  html : Form
  markdown : Form
  line : List ℕ → Form

-- the form that a plan asks for, for the lockfile at a path
abbrev pub shaped : Shape → Bool → List ℕ → Form
shaped shape.Text colored path = text colored
shaped shape.Json colored path = json
shaped shape.Sarif colored path = sarif path
shaped shape.Html colored path = html
shaped shape.Markdown colored path = markdown

abbrev pub form_of : PlanValue → List ℕ → Form
form_of p path = shaped p.wanted.shape p.wanted.colored path

-- the text of a check of the lockfile with a text
abbrev pub IsWrittenText : Form → List ℕ → WrittenValue → List ℕ → Type 0
IsWrittenText (text colored) lock w t = t ≡ check_text colored w
IsWrittenText json lock w t = t ≡ tree_line (check_tree w)
IsWrittenText (sarif path) lock w t = (places : List Place) × (ArePackages (skip_mark lock) places × (t ≡ tree_line (sarif_tree path places w)))
IsWrittenText html lock w t = IsPage w t
IsWrittenText markdown lock w t = t ≡ markdown_text w
IsWrittenText (line path) lock w t = t ≡ tree_line (many_tree path (check_tree w))

-- the text of a refusal
abbrev pub refusal_text : Form → Failure → List ℕ
refusal_text (text colored) e = (refused_as e.kind).text
refusal_text json e = (refused_as e.kind).text
refusal_text (sarif path) e = (refused_as e.kind).text
refusal_text html e = (refused_as e.kind).text
refusal_text markdown e = (refused_as e.kind).text
refusal_text (line path) e = tree_line (refused_tree path e.kind)

abbrev pub refusal_output : Form → Failure → Output
refusal_output form e = record { text = refusal_text form e; status = 2 }

-- ---- one lockfile

-- what the checks of lockfiles have in common: the plan and the advisories of the database
pub record Ground : Type 0 where
  pub plan : PlanValue
  pub advisories : List Advisory

-- what the outputs for lockfiles have in common: the plan, how many advisories the database has, and their latest date
pub record BasisValue : Type 0 where
  pub plan : PlanValue
  pub database : DatedValue

-- likewise for a plan and all advisories
abbrev pub basis_of : Ground → BasisValue
basis_of g = record { plan = g.plan; database = dated_of g.advisories }

-- whether the database or the lockfile is empty, and that is refused
abbrev pub is_empty : BasisValue → LoadedValue → Bool
is_empty b l = not b.plan.allow_empty && (b.database.count == 0 || length l.locked.packages == 0)

-- what is checked
abbrev pub subject_of : Ground → LoadedValue → SubjectValue
subject_of g l = record {
  advisories = g.advisories;
  packages = l.locked.packages;
  graph = l.locked.graph;
  settings = g.plan.wanted.settings;
  denied = g.plan.wanted.denied;
  baseline = l.baseline;
}

-- the notes on the packages that the index does not list, if one was asked
abbrev pub index_notes : Option YankedPackages → List (List ℕ)
index_notes None = []
index_notes (Some y) = y.unlisted

-- the notes on a check: those on the policy, on the kinds of warnings, on what is empty, on the sources and the
-- dependencies of the lockfile's packages, and on the index
abbrev pub notes_of : BasisValue → LoadedValue → List (List ℕ)
notes_of b l =
    ((((b.plan.wanted.notes ++ kind_notes b.plan.wanted.settings.informational_warnings)
    ++ empty_notes b.database.count (length l.locked.packages))
    ++ source_notes l.locked.packages)
    ++ dependency_notes l.locked.packages l.locked.graph.unresolved)
    ++ index_notes l.yanked

-- what is found: the check, and the yanked packages, if an index was asked
pub record FoundValue : Type 0 where
  pub check : CheckValue
  pub yanked : Option (List YankedValue)

-- the yanked packages of a subject, if an index was asked
abbrev pub AreYankedIf : SubjectValue → Option YankedPackages → Option (List YankedValue) → Type 0
AreYankedIf s None found = found ≡ None
AreYankedIf s (Some y) found = (ys : List YankedValue) × (AreYanked s y.packages ys × (found ≡ Some ys))

pub record IsFound (g : Ground) (l : LoadedValue) (f : FoundValue) : Type 0 where
  pub check : IsCheckOf (subject_of g l) f.check
  pub yanked : AreYankedIf (subject_of g l) l.yanked f.yanked

-- what is written of it
abbrev pub written_of : BasisValue → LoadedValue → FoundValue → WrittenValue
written_of b l f = record {
  database = b.database;
  packages = l.locked.packages;
  check = f.check;
  entries = b.plan.entries;
  notes = notes_of b l;
  yanked = f.yanked;
}

-- whether a yanked package, if an index was asked, is denied and not old
abbrev pub some_yanked_fail : Option (List YankedValue) → Bool
some_yanked_fail None = false
some_yanked_fail (Some ys) = yanked_fails ys

-- the status for what is found: 1 if a finding or a yanked package is denied and not old
abbrev pub status_of : FoundValue → ℕ
status_of f = if fails f.check.findings || some_yanked_fail f.yanked then 1 else 0

-- the output for what is found
pub record IsOutputFor (form : Form) (b : BasisValue) (l : LoadedValue) (f : FoundValue) (o : Output) : Type 0 where
  pub text : IsWrittenText form l.locked.text (written_of b l f) o.text
  pub status : o.status ≡ status_of f

-- the output for lockfiles that were loaded
pub record IsCheckedOutput (form : Form) (g : Ground) (l : LoadedValue) (o : Output) : Type 0 where
  pub is_not_empty : is_empty (basis_of g) l ≡ false
  pub found : FoundValue
  pub is_found : IsFound g l found
  pub is_output : IsOutputFor form (basis_of g) l found o

-- the files that are looked at for the lockfile at a path
abbrev pub places_of : PlanValue → List ℕ → Places
places_of p path = record { lock = path; baseline = p.baseline; index = p.wanted.index }

-- the output for the lockfile at a path
abbrev pub IsLockfileOutput : Allowed → Form → Ground → List ℕ → Output → Type 0
IsLockfileOutput allowed form g path o = (l : LoadedValue) × (AreLoadedAt allowed (places_of g.plan path) l × IsCheckedOutput form g l o)

-- how a lockfile is refused: a file is; or the database or the lockfile is empty
abbrev pub IsCheckedRefusal : Allowed → Ground → List ℕ → Failure → Type 0
IsCheckedRefusal allowed g path e =
    IsLoadRefusal allowed (places_of g.plan path) e
    ⊎ ((l : LoadedValue) × (AreLoadedAt allowed (places_of g.plan path) l × IsRefusal kind.NotFound (is_empty (basis_of g) l ≡ true) e))

-- an output for the lockfile at a path, or the kind of its refusal, which is not out of memory
pub data IsAnswer (allowed : Allowed) (form : Form) (g : Ground) (path : List ℕ) (o : Output) : Type 0 where
  checked : IsLockfileOutput allowed form g path o → IsAnswer allowed form g path o
  refused : (e : Failure) → IsCheckedRefusal allowed g path e → e.kind ≢ kind.OutOfMemory → o ≡ refusal_output form e → IsAnswer allowed form g path o
