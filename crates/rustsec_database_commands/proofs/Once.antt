-- If each path has one answer, each command has one output.
use Rattle.std.proofs.Common.{◌≡◌, ◌≢◌, ◌∙◌, ℕ, Bool, List, Option, None, Some, true, ap, subst, sym}
use Rattle.rustsec_files.specs.Allowed.{Allowed, AnswersOnce}
use Rattle.rustsec_lint_database.proofs.Once.{entries-once, entries-or-unlisted}
use Rattle.rustsec_commands.specs.Output.{Output, refused_as}
use Rattle.rustsec_commands.proofs.lemmas.Once.{kinds-of, no-memory, same-output}
use Rattle.semver.specs.Parse.{Parts, version_parts}
use Rattle.rustsec_values.specs.Reading.{value_of}
use Rattle.rustsec_values.specs.Failure.{Failure}
use Rattle.rustsec_values.specs.declared.error.ErrorKind.TheVariants as kind
use Rattle.rustsec_lock.specs.Names.{name_of}
use Rattle.rustsec_advisory.specs.declared.advisory.Advisory.{Advisory}
use Rattle.rustsec_database.specs.Opened.{IsOpenRefusal}
use Rattle.rustsec_database.proofs.Once.{open-refused-once, opened-once, opened-or-refused}
use Rattle.rustsec_osv_database.specs.Answers.{IsAnswerOf}
use Rattle.rustsec_osv_database.specs.Lines.{AreParts}
use Rattle.rustsec_osv_database.specs.declared.exported.Choice.{Choice}
use Rattle.rustsec_osv_database.proofs.Once.{answer-once, answer-or-none, text-once}
use Rattle.rustsec_program.proofs.Once as audits
use Rattle.rustsec_database_commands.specs.Commands.{HaveOneOutput, IsOutputOf, IsOwnOutput, reads_input_of}
use Rattle.rustsec_database_commands.specs.Lint.{IsLinted, IsLintedBy, IsLintedIn, entries_output, form_named, linted, unlisted}
use Rattle.rustsec_database_commands.specs.Options.{AskedValue, asked_of}
use Rattle.rustsec_database_commands.specs.Osv.{IsAnswered, IsAnsweredFor, IsExported, IsExportedBy, answer_output, choice_for, status_for}
use Rattle.rustsec_database_commands.specs.Osv as documents
use Rattle.rustsec_database_commands.specs.Stats.{IsCounted, IsCountedBy, IsCountedIn, asked_form, stats_output}
use Rattle.rustsec_database_commands.specs.Stats as counts
use Rattle.rustsec_database_commands.specs.Words.{Command, command_of, lint, osv, query, short, stats}
use Rattle.rustsec_database_commands.specs.declared.form.Form.{Form}

module _ (allowed : Allowed) (once : AnswersOnce allowed) where
  -- a database has one kind of refusal
  refusal-once : (root : List ℕ) (e f : Failure) (o p : Output) → IsOpenRefusal allowed root e → IsOpenRefusal allowed root f
      → e.kind ≢ kind.OutOfMemory → f.kind ≢ kind.OutOfMemory → o ≡ refused_as e.kind → p ≡ refused_as f.kind → o ≡ p
  refusal-once root e f o p h k u v is also = same-output e f o p (kinds-of e f u v (open-refused-once allowed once root e f h k)) is also

  -- ---- lint-database

  linted-once : (root : List ℕ) (f : Form) (upstream : Bool) (o p : Output) → IsLinted allowed root f upstream o → IsLinted allowed root f upstream p → o ≡ p
  linted-once root f upstream o p (linted es h is) (linted ds k also) =
      is ∙ (ap (entries_output f upstream) (entries-once allowed once root es ds h k) ∙ sym also)
  linted-once root f upstream o p (linted es h is) (unlisted k also) = entries-or-unlisted allowed once root es h k
  linted-once root f upstream o p (unlisted h is) (linted es k also) = entries-or-unlisted allowed once root es k h
  linted-once root f upstream o p (unlisted h is) (unlisted k also) = is ∙ sym also

  form-once : (root : List ℕ) (f : Option Form) (upstream : Bool) (o p : Output) → IsLintedIn allowed root f upstream o → IsLintedIn allowed root f upstream p
      → o ≡ p
  form-once root None upstream o p h k = h ∙ sym k
  form-once root (Some f) upstream o p h k = linted-once root f upstream o p h k

  lint-once : (root : List ℕ) (a : Option AskedValue) (o p : Output) → IsLintedBy allowed root a o → IsLintedBy allowed root a p → o ≡ p
  lint-once root None o p h k = h ∙ sym k
  lint-once root (Some a) o p h k = form-once root (form_named a.format) a.upstream o p h k

  -- ---- stats

  counted-once : (root : List ℕ) (f : Form) (o p : Output) → IsCounted allowed root f o → IsCounted allowed root f p → o ≡ p
  counted-once root f o p (counts.counted xs h is) (counts.counted ys k also) =
      is ∙ (ap (stats_output f) (opened-once allowed once root xs ys h k) ∙ sym also)
  counted-once root f o p (counts.counted xs h is) (counts.refused e k u also) = no-memory e u (opened-or-refused allowed once root xs e h k)
  counted-once root f o p (counts.refused e h u is) (counts.counted xs k also) = no-memory e u (opened-or-refused allowed once root xs e k h)
  counted-once root f o p (counts.refused e h u is) (counts.refused g k v also) = refusal-once root e g o p h k u v is also

  counted-in-once : (root : List ℕ) (f : Option Form) (o p : Output) → IsCountedIn allowed root f o → IsCountedIn allowed root f p → o ≡ p
  counted-in-once root None o p h k = h ∙ sym k
  counted-in-once root (Some f) o p h k = counted-once root f o p h k

  stats-once : (root : List ℕ) (name : Option (Option (List ℕ))) (o p : Output) → IsCountedBy allowed root name o → IsCountedBy allowed root name p → o ≡ p
  stats-once root None o p h k = h ∙ sym k
  stats-once root (Some name) o p h k = counted-in-once root (form_named name) o p h k

  -- ---- osv-database

  exported-once : (root modified : List ℕ) (c : Choice) (o p : Output) → IsExported allowed root modified c o → IsExported allowed root modified c p → o ≡ p
  exported-once root modified c o p (documents.exported xs text missing h parts is) (documents.exported ys other also k again too) =
      let same = opened-once allowed once root xs ys h k in
      let moved = subst (λ (zs : List Advisory). AreParts c modified zs text missing) same parts in
      let one = text-once c modified ys text other missing also moved again in
      let step : record { text = text; status = status_for missing } ≡ record { text = other; status = status_for also } =
      λ i. record { text = one.0 i; status = status_for (one.1 i) } in
      is ∙ (step ∙ sym too)
  exported-once root modified c o p (documents.exported xs text missing h parts is) (documents.refused e k u also) =
      no-memory e u (opened-or-refused allowed once root xs e h k)
  exported-once root modified c o p (documents.refused e h u is) (documents.exported xs text missing k parts also) =
      no-memory e u (opened-or-refused allowed once root xs e k h)
  exported-once root modified c o p (documents.refused e h u is) (documents.refused g k v also) = refusal-once root e g o p h k u v is also

  osv-once : (root modified : List ℕ) (c : Option Choice) (o p : Output) → IsExportedBy allowed root modified c o → IsExportedBy allowed root modified c p
      → o ≡ p
  osv-once root modified None o p h k = h ∙ sym k
  osv-once root modified (Some c) o p h k = exported-once root modified c o p h k

  -- ---- query-osv

  answered-once : (root name : List ℕ) (version : Parts) (o p : Output) → IsAnswered allowed root name version o → IsAnswered allowed root name version p
      → o ≡ p
  answered-once root name version o p (documents.answered xs text h answer is) (documents.answered ys other k again also) =
      let same = opened-once allowed once root xs ys h k in
      let moved = subst (λ (zs : List Advisory). IsAnswerOf name version zs text) same answer in
      is ∙ (ap answer_output (answer-once name version ys text other moved again) ∙ sym also)
  answered-once root name version o p (documents.answered xs text h answer is) (documents.unanswered ys k none also) =
      let same = opened-once allowed once root xs ys h k in
      answer-or-none name version ys text (subst (λ (zs : List Advisory). IsAnswerOf name version zs text) same answer) none
  answered-once root name version o p (documents.answered xs text h answer is) (documents.refused e k u also) =
      no-memory e u (opened-or-refused allowed once root xs e h k)
  answered-once root name version o p (documents.unanswered xs h none is) (documents.answered ys text k answer also) =
      let same = opened-once allowed once root ys xs k h in
      answer-or-none name version xs text (subst (λ (zs : List Advisory). IsAnswerOf name version zs text) same answer) none
  answered-once root name version o p (documents.unanswered xs h none is) (documents.unanswered ys k other also) = is ∙ sym also
  answered-once root name version o p (documents.unanswered xs h none is) (documents.refused e k u also) =
      no-memory e u (opened-or-refused allowed once root xs e h k)
  answered-once root name version o p (documents.refused e h u is) (documents.answered xs text k answer also) =
      no-memory e u (opened-or-refused allowed once root xs e k h)
  answered-once root name version o p (documents.refused e h u is) (documents.unanswered xs k none also) =
      no-memory e u (opened-or-refused allowed once root xs e k h)
  answered-once root name version o p (documents.refused e h u is) (documents.refused g k v also) = refusal-once root e g o p h k u v is also

  query-once : (root : List ℕ) (name : Option (List ℕ)) (version : Option Parts) (o p : Output) → IsAnsweredFor allowed root name version o
      → IsAnsweredFor allowed root name version p → o ≡ p
  query-once root None version o p h k = h ∙ sym k
  query-once root (Some name) None o p h k = h ∙ sym k
  query-once root (Some name) (Some version) o p h k = answered-once root name version o p h k

  -- ---- all commands

  own-once : (c : Command) (o p : Output) → IsOwnOutput allowed c o → IsOwnOutput allowed c p → o ≡ p
  own-once (lint root options) o p h k = lint-once root (asked_of options) o p h k
  own-once (stats root options) o p h k = stats-once root (asked_form options) o p h k
  own-once (osv root modified options) o p h k = osv-once root modified (choice_for modified options) o p h k
  own-once (query root name version) o p h k = query-once root (name_of name) (value_of (version_parts version)) o p h k
  own-once short o p h k = h ∙ sym k

  output-once : (words : List (List ℕ)) (c : Option Command) (input : Option (List ℕ)) → (reads_input_of words c ≡ true → input ≢ None) → (o p : Output)
      → IsOutputOf allowed words c input o → IsOutputOf allowed words c input p → o ≡ p
  output-once words (Some c) input is o p h k = own-once c o p h k
  output-once words None input is o p h k = audits.one_output allowed words input once is o p h k

pub one_output : (allowed : Allowed) (words : List (List ℕ)) (input : Option (List ℕ)) → AnswersOnce allowed → HaveOneOutput allowed words input
one_output allowed words input once is o p h k = output-once allowed once words (command_of words) input is o p h k
