-- The outputs of `check` and `check-many`.
use Rattle.std.specs.Prelude.{◌≡◌, ◌≢◌, ◌⊎◌, ◌==◌, ◌&&◌, ℕ, Bool, false, true, List, None, Some, filter, flat_map, if◌then◌else◌, length, max, not}
use Rattle.std.specs.List.{fold, slice_split}
use Rattle.std.specs.Str.{is_utf8}
use Rattle.rustsec_files.specs.Allowed.{Allowed}
use Rattle.rustsec_files.specs.Listed.{Pairwise}
use Rattle.rustsec_values.specs.Failure.{Failure, IsRefusal}
use Rattle.rustsec_values.specs.declared.error.ErrorKind.TheVariants as kind
use Rattle.rustsec_database.specs.Opened.{AreOpened, IsOpenRefusal}
use Rattle.rustsec_commands.specs.Output.{Output, refused_as, usage}
use Rattle.rustsec_program.specs.CheckOptions.{CheckOption, has, options_of}
use Rattle.rustsec_program.specs.Checked.{Ground, IsAnswer, IsCheckedRefusal, IsLockfileOutput, form_of, line}
use Rattle.rustsec_program.specs.Plan.{IsPlan, IsPlanRefusal, PlanValue}
use Rattle.rustsec_program.specs.declared.keys.Flag.TheVariants as flag

-- ---- the plan and the database

-- the plan of options, and the advisories under a root
abbrev pub IsGround : Allowed → List ℕ → List CheckOption → Ground → Type 0
IsGround allowed root options g = IsPlan allowed options g.plan × AreOpened allowed root g.advisories

-- how they are refused: the options are, or there is a plan and the database is refused
abbrev pub IsGroundRefusal : Allowed → List ℕ → List CheckOption → Failure → Type 0
IsGroundRefusal allowed root options e =
    IsPlanRefusal allowed options e ⊎ (((p : PlanValue) × IsPlan allowed options p) × IsOpenRefusal allowed root e)

-- ---- check

-- an output for a lockfile that is checked
abbrev pub IsCheckResult : Allowed → List ℕ → List ℕ → List CheckOption → Output → Type 0
IsCheckResult allowed root lock options o =
    (g : Ground) × (IsGround allowed root options g × IsLockfileOutput allowed (form_of g.plan lock) g lock o)

-- how it is refused: the options or the database are, or the lockfile
abbrev pub IsCheckRefusal : Allowed → List ℕ → List ℕ → List CheckOption → Failure → Type 0
IsCheckRefusal allowed root lock options e =
    IsGroundRefusal allowed root options e ⊎ ((g : Ground) × (IsGround allowed root options g × IsCheckedRefusal allowed g lock e))

-- an output of `check` for a root, the path of a lockfile and the words after them
pub data IsCheckOutput (allowed : Allowed) (root lock : List ℕ) (words : List (List ℕ)) (o : Output) : Type 0 where
  misused : options_of words ≡ None → o ≡ usage → IsCheckOutput allowed root lock words o
  checked : (options : List CheckOption) → options_of words ≡ Some options → IsCheckResult allowed root lock options o
      → IsCheckOutput allowed root lock words o
  refused : (options : List CheckOption) (e : Failure) → options_of words ≡ Some options → IsCheckRefusal allowed root lock options e
      → e.kind ≢ kind.OutOfMemory → o ≡ refused_as e.kind → IsCheckOutput allowed root lock words o

-- ---- check-many

-- the byte that ends a path: NUL or a line feed
abbrev pub separator : List CheckOption → ℕ
separator options = if has flag.Null options then 0 else 10

-- whether a text is a path: it is not empty
abbrev pub is_path : List ℕ → Bool
is_path path = not (length path == 0)

-- the paths of an input: what is between the separators, unless it is empty
abbrev pub paths_of : ℕ → List ℕ → List (List ℕ)
paths_of end input = filter is_path (slice_split (λ b. b == end) input)

-- the worst status of some outputs; 0 if there is none
abbrev pub worst : List Output → ℕ
worst outputs = fold (λ status (o : Output). max status o.status) 0 outputs

-- the answers for the lockfiles at some paths: for each a line by the plan, the database and that lockfile alone, in order, and the worst status
pub record AreAnswers (allowed : Allowed) (g : Ground) (paths : List (List ℕ)) (o : Output) : Type 0 where
  pub outputs : List Output
  pub each : Pairwise (λ (path : List ℕ) (one : Output). IsAnswer allowed (line path) g path one) paths outputs
  pub text : o.text ≡ flat_map (λ (one : Output). one.text) outputs
  pub status : o.status ≡ worst outputs

-- whether an input names no lockfile, and that is refused
abbrev pub names_none : List CheckOption → List ℕ → Bool
names_none options input = not (has flag.AllowEmpty options) && length (paths_of (separator options) input) == 0

-- an input that is a list of lockfiles
abbrev pub IsList : List CheckOption → List ℕ → Type 0
IsList options input = (is_utf8 input ≡ true) × (names_none options input ≡ false)

-- the answers for the lockfiles that an input names
abbrev pub AreAnswersTo : Allowed → List ℕ → List CheckOption → List ℕ → Output → Type 0
AreAnswersTo allowed root options input o =
    (g : Ground) × (IsGround allowed root options g × (IsList options input × AreAnswers allowed g (paths_of (separator options) input) o))

-- how there are none: the input is not UTF-8; or it names no lockfile; or it is a list of lockfiles, and the options or
-- the database are refused
abbrev pub IsManyRefusal : Allowed → List ℕ → List CheckOption → List ℕ → Failure → Type 0
IsManyRefusal allowed root options input e =
    IsRefusal kind.Parse (is_utf8 input ≡ false) e
    ⊎ (IsRefusal kind.NotFound ((is_utf8 input ≡ true) × (names_none options input ≡ true)) e
    ⊎ (IsList options input × IsGroundRefusal allowed root options e))

-- an output of `check-many` for a root, the words after it and the bytes of an input
pub data IsManyOutput (allowed : Allowed) (root : List ℕ) (words : List (List ℕ)) (input : List ℕ) (o : Output) : Type 0 where
  misused_many : options_of words ≡ None → o ≡ usage → IsManyOutput allowed root words input o
  answered : (options : List CheckOption) → options_of words ≡ Some options → AreAnswersTo allowed root options input o
      → IsManyOutput allowed root words input o
  refused_many : (options : List CheckOption) (e : Failure) → options_of words ≡ Some options → IsManyRefusal allowed root options input e
      → e.kind ≢ kind.OutOfMemory → o ≡ refused_as e.kind → IsManyOutput allowed root words input o
