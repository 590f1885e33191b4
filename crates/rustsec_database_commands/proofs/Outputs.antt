-- Outputs of `lint-database`, by what its parts give.
use Rattle.std.proofs.Common.{◌≡◌, ◌≢◌, ℕ, Bool, List, Option, None, Some, ap, subst, sym}
use Rattle.rustsec_values.specs.Failure.{Failure, IsRefusal}
use Rattle.rustsec_values.specs.declared.error.ErrorKind.TheVariants as kind
use Rattle.rustsec_files.specs.Allowed.{Allowed}
use Rattle.rustsec_files.specs.Listed.{Paths}
use Rattle.rustsec_lint_database.specs.Entries.{AreEntries}
use Rattle.rustsec_lint_database.specs.declared.database.Entry.{Entry}
use Rattle.rustsec_commands.specs.Output.{Output, refused_as, usage}
use Rattle.rustsec_program.proofs.OneReading.{real}
use Rattle.rustsec_database_commands.specs.Lint.{IsLintOutput, IsLintedBy, IsLintedIn, entries_output, form_named, linted, unlisted}
use Rattle.rustsec_database_commands.specs.Options.{AskedValue, asked_of}
use Rattle.rustsec_database_commands.specs.declared.form.Form.{Form}

module _ (allowed : Allowed) (root : List ℕ) where
  -- a form that is unknown
  pub misread : (name : Option (List ℕ)) (upstream : Bool) (e : Failure) → IsRefusal kind.Parse (form_named name ≡ None) e → e.kind ≢ kind.OutOfMemory
      → IsLintedIn allowed root (form_named name) upstream (refused_as e.kind)
  misread name upstream e h other =
      let found = real kind.Parse e other h in
      subst (λ (f : Option Form). IsLintedIn allowed root f upstream (refused_as e.kind)) (sym found.1) (ap refused_as found.0)

  -- a folder that cannot be listed
  pub not-listed : (name : Option (List ℕ)) (f : Form) (upstream : Bool) (e : Failure) → form_named name ≡ Some f
      → IsRefusal kind.Io (Paths allowed root None) e → e.kind ≢ kind.OutOfMemory → IsLintedIn allowed root (form_named name) upstream (refused_as e.kind)
  not-listed name f upstream e is h other =
      let found = real kind.Io e other h in
      subst (λ (g : Option Form). IsLintedIn allowed root g upstream (refused_as e.kind)) (sym is) (unlisted found.1 (ap refused_as found.0))

  -- the files
  pub all-linted : (name : Option (List ℕ)) (f : Form) (upstream : Bool) (o : Output) → form_named name ≡ Some f
      → (entries : List Entry) × (AreEntries allowed root entries × (o ≡ entries_output f upstream entries))
      → IsLintedIn allowed root (form_named name) upstream o
  all-linted name f upstream o is (entries, (are, made)) =
      subst (λ (g : Option Form). IsLintedIn allowed root g upstream o) (sym is) (linted entries are made)

  -- words that are not options
  pub misused : (words : List (List ℕ)) (o : Output) → None ≡ asked_of words → o ≡ usage → IsLintOutput allowed root words o
  misused words o is made = subst (λ (a : Option AskedValue). IsLintedBy allowed root a o) is made

  -- words that ask
  pub by-asked : (words : List (List ℕ)) (a : AskedValue) (o : Output) → Some a ≡ asked_of words → IsLintedBy allowed root (Some a) o
      → IsLintOutput allowed root words o
  by-asked words a o is h = subst (λ (b : Option AskedValue). IsLintedBy allowed root b o) is h
