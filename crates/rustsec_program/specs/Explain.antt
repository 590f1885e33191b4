-- The output of `explain`.
use Rattle.std.specs.Prelude.{◌≡◌, ◌≢◌, ◌⊎◌, ℕ, List, Option, None, Some}
use Rattle.rustsec_files.specs.Allowed.{Allowed}
use Rattle.rustsec_values.specs.Failure.{Failure}
use Rattle.rustsec_values.specs.declared.error.ErrorKind.TheVariants as kind
use Rattle.rustsec_lock.specs.Lockfile.{IsLockfileAt, IsLockfileRefusal}
use Rattle.rustsec_lock.specs.Package.{PackageValue}
use Rattle.rustsec_texts.specs.Ids.{IdValue}
use Rattle.rustsec_advisory.specs.declared.advisory.Advisory.{Advisory}
use Rattle.rustsec_policy.specs.Policies.{known_id}
use Rattle.rustsec_report.specs.declared.settings.Settings.{Settings}
use Rattle.rustsec_explain.specs.Explained.{explained_by_id, explained_by_name}
use Rattle.rustsec_explain.specs.Pair.{ExplainedPair}
use Rattle.rustsec_explain_output.specs.ExplainText.{explain_text}
use Rattle.rustsec_explain_output.specs.ExplainTree.{explain_tree}
use Rattle.rustsec_explain_output.specs.Rules.{RulesValue}
use Rattle.rustsec_commands.specs.Output.{Output, refused_as, usage}
use Rattle.rustsec_json.specs.Lines.{tree_line}
use Rattle.rustsec_program.specs.Check.{IsGround, IsGroundRefusal}
use Rattle.rustsec_program.specs.CheckOptions.{CheckOption, options_of}
use Rattle.rustsec_program.specs.Checked.{Ground}
use Rattle.rustsec_program.specs.Plan.{PlanValue}
use Rattle.rustsec_program.specs.declared.shapes.Shape.{Shape}
use Rattle.rustsec_program.specs.declared.shapes.Shape.TheVariants as shape

-- ---- pairs

-- the pairs of the advisories that an ID means, if the text is an ID in a known form, else those of a package's name
abbrev pub pairs_by : Settings → List Advisory → List PackageValue → List ℕ → Option IdValue → List ExplainedPair
pairs_by s advisories packages text (Some id) = explained_by_id s advisories packages id
pairs_by s advisories packages text None = explained_by_name s advisories packages text

abbrev pub pairs_of : Ground → List PackageValue → List ℕ → List ExplainedPair
pairs_of g packages text = pairs_by g.plan.wanted.settings g.advisories packages text (known_id text)

-- what an explanation goes by: the settings of a plan, and the entries of its policy that count
abbrev pub rules_of : PlanValue → RulesValue
rules_of p = record { settings = p.wanted.settings; entries = p.entries }

-- the text for some pairs: for people, unless JSON is asked for
abbrev pub pairs_text : Shape → RulesValue → List ExplainedPair → List ℕ
pairs_text shape.Text rules pairs = explain_text rules pairs
pairs_text shape.Json rules pairs = tree_line (explain_tree rules pairs)
pairs_text shape.Sarif rules pairs = explain_text rules pairs
pairs_text shape.Html rules pairs = explain_text rules pairs
pairs_text shape.Markdown rules pairs = explain_text rules pairs

-- the output for the packages of a lockfile
abbrev pub pairs_output : Ground → List PackageValue → List ℕ → Output
pairs_output g packages text = record { text = pairs_text g.plan.wanted.shape (rules_of g.plan) (pairs_of g packages text); status = 0 }

-- ---- outputs

-- the output for the lockfile at a path
abbrev pub IsExplained : Allowed → List ℕ → List ℕ → List ℕ → List CheckOption → Output → Type 0
IsExplained allowed root lock text options o = (g : Ground) × (IsGround allowed root options g
    × ((packages : List PackageValue) × (IsLockfileAt allowed lock packages × (o ≡ pairs_output g packages text))))

-- how it is refused: the options or the database are, or the lockfile
abbrev pub IsExplainRefusal : Allowed → List ℕ → List ℕ → List CheckOption → Failure → Type 0
IsExplainRefusal allowed root lock options e =
    IsGroundRefusal allowed root options e ⊎ (((g : Ground) × IsGround allowed root options g) × IsLockfileRefusal allowed lock e)

-- an output of `explain` for a root, the path of a lockfile, an ID or a name, and the words after them
pub data IsExplainOutput (allowed : Allowed) (root lock text : List ℕ) (words : List (List ℕ)) (o : Output) : Type 0 where
  misused : options_of words ≡ None → o ≡ usage → IsExplainOutput allowed root lock text words o
  explained : (options : List CheckOption) → options_of words ≡ Some options → IsExplained allowed root lock text options o
      → IsExplainOutput allowed root lock text words o
  refused : (options : List CheckOption) (e : Failure) → options_of words ≡ Some options → IsExplainRefusal allowed root lock options e
      → e.kind ≢ kind.OutOfMemory → o ≡ refused_as e.kind → IsExplainOutput allowed root lock text words o
