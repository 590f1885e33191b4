-- Outputs of `stats`, `osv-database` and `query-osv`, by what their parts give.
use Rattle.std.proofs.Common.{◌≡◌, ◌≢◌, ◌∙◌, ℕ, Bool, List, Option, Some, ap, refl, subst, sym}
use Rattle.semver.specs.Parse.{Parts}
use Rattle.rustsec_values.specs.Failure.{Failure, IsRefusal}
use Rattle.rustsec_values.specs.declared.error.ErrorKind.TheVariants as kind
use Rattle.rustsec_files.specs.Allowed.{Allowed}
use Rattle.rustsec_advisory.specs.declared.advisory.Advisory.{Advisory}
use Rattle.rustsec_database.specs.Opened.{AreOpened, IsOpenRefusal}
use Rattle.rustsec_osv_database.specs.Answers.{HasNoAnswer, IsAnswerOf}
use Rattle.rustsec_osv_database.specs.Lines.{AreParts}
use Rattle.rustsec_osv_database.specs.declared.exported.Choice.{Choice}
use Rattle.rustsec_commands.specs.Output.{Output, refused_as}
use Rattle.rustsec_program.proofs.OneReading.{real}
use Rattle.rustsec_database_commands.specs.Lint.{form_named}
use Rattle.rustsec_database_commands.specs.Osv.{IsAnswered, IsExportedBy, answer_output, choice_for, status_for}
use Rattle.rustsec_database_commands.specs.Osv as documents
use Rattle.rustsec_database_commands.specs.Stats.{IsCountedIn, stats_output}
use Rattle.rustsec_database_commands.specs.Stats as counts
use Rattle.rustsec_database_commands.specs.declared.form.Form.{Form}

module _ (allowed : Allowed) (root : List ℕ) where
  pub counted-in : (name : Option (List ℕ)) (f : Form) (o : Output) → form_named name ≡ Some f
      → (advisories : List Advisory) × (AreOpened allowed root advisories × (o ≡ stats_output f advisories)) → IsCountedIn allowed root (form_named name) o
  counted-in name f o is (advisories, (opened, made)) =
      subst (λ (g : Option Form). IsCountedIn allowed root g o) (sym is) (counts.counted advisories opened made)

  pub not-counted : (name : Option (List ℕ)) (f : Form) (e : Failure) → form_named name ≡ Some f → IsOpenRefusal allowed root e
      → e.kind ≢ kind.OutOfMemory → IsCountedIn allowed root (form_named name) (refused_as e.kind)
  not-counted name f e is h other =
      subst (λ (g : Option Form). IsCountedIn allowed root g (refused_as e.kind)) (sym is) (counts.refused e h other refl)

  pub exported-by : (modified : List ℕ) (words : List (List ℕ)) (c : Choice) (o : Output) → Some c ≡ choice_for modified words
      → (advisories : List Advisory) × ((text : List ℕ) × ((missing : Bool) × (AreOpened allowed root advisories
      × (AreParts c modified advisories text missing × (o ≡ record { text = text; status = status_for missing })))))
      → IsExportedBy allowed root modified (choice_for modified words) o
  exported-by modified words c o is (advisories, (text, (missing, (opened, (parts, made))))) =
      subst (λ (d : Option Choice). IsExportedBy allowed root modified d o) is (documents.exported advisories text missing opened parts made)

  pub not-exported : (modified : List ℕ) (words : List (List ℕ)) (c : Choice) (e : Failure) (o : Output) → Some c ≡ choice_for modified words
      → IsOpenRefusal allowed root e → e.kind ≢ kind.OutOfMemory → o ≡ refused_as e.kind → IsExportedBy allowed root modified (choice_for modified words) o
  not-exported modified words c e o is h other made =
      subst (λ (d : Option Choice). IsExportedBy allowed root modified d o) is (documents.refused e h other made)

  pub answer-refused : (name : List ℕ) (version : Parts) (e : Failure) (o : Output) → IsOpenRefusal allowed root e → e.kind ≢ kind.OutOfMemory
      → o ≡ refused_as e.kind → IsAnswered allowed root name version o
  answer-refused name version e o h other made = documents.refused e h other made

  pub answered-with : (name : List ℕ) (version : Parts) (advisories : List Advisory) (text : List ℕ) (o : Output) → AreOpened allowed root advisories
      → IsAnswerOf name version advisories text → o ≡ answer_output text → IsAnswered allowed root name version o
  answered-with name version advisories text o opened is made = documents.answered advisories text opened is made

  pub unanswered-by : (name : List ℕ) (version : Parts) (advisories : List Advisory) (e : Failure) (o : Output) → AreOpened allowed root advisories
      → IsRefusal kind.BadParam (HasNoAnswer name version advisories) e → e.kind ≢ kind.OutOfMemory → o ≡ refused_as e.kind
      → IsAnswered allowed root name version o
  unanswered-by name version advisories e o opened h other made =
      let found = real kind.BadParam e other h in
      documents.unanswered advisories opened found.1 (made ∙ ap refused_as found.0)
