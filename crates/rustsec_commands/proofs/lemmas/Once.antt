-- If each path has one answer, each command has one output.
use Rattle.std.proofs.Common.{◌≡◌, ◌≢◌, ◌⊎◌, ◌∙◌, ℕ, List, [], ◌++◌, Option, None, Some, true, ap, inl, inr, refl, subst, sym}
use Rattle.std.proofs.lemmas.List.Sorted.{IsPermutation-refl}
use Rattle.toml.specs.Data.{Members}
use Rattle.toml.specs.Parse.{parse_document}
use Rattle.rustsec_values.specs.Reading.{◌>>=◌, read_all}
use Rattle.rustsec_versions.proofs.lemmas.ranges.Agreement.{ranges-one}
use Rattle.rustsec_values.specs.Failure.{Failure, IsMemory, IsRefusal}
use Rattle.rustsec_versions.specs.acceptance.Lists.{Lists}
use Rattle.rustsec_values.specs.declared.error.ErrorKind.{ErrorKind}
use Rattle.rustsec_values.specs.declared.error.ErrorKind.TheVariants as kind
use Rattle.rustsec_files.specs.Allowed.{Allowed, AnswersOnce}
use Rattle.rustsec_files.specs.declared.source_file.SourceFile.{SourceFile}
use Rattle.rustsec_files.proofs.Once.{listed-once, read-or-not, text-once}
use Rattle.rustsec_lock.specs.Lockfile.{IsLockfileRefusal, lockfile_of, packages_of}
use Rattle.rustsec_lock.specs.Package.{PackageValue}
use Rattle.rustsec_texts.specs.Ids.{IdValue, id_of}
use Rattle.rustsec_advisory.proofs.Unique.{advisory_unique, lints_unique}
use Rattle.rustsec_advisory.specs.Advisory.{IsAdvisory}
use Rattle.rustsec_advisory.specs.FileRefusals.{AreLintsAt, IsAdvisoryAt, IsAdvisoryRefusal, IsLintRefusal}
use Rattle.rustsec_advisory.specs.LintErrors.{LintError}
use Rattle.rustsec_advisory.specs.Lints.{Lints}
use Rattle.rustsec_files.specs.Paths.{is_draft}
use Rattle.rustsec_advisory.specs.declared.advisory.Advisory.{Advisory}
use Rattle.rustsec_database.proofs.Once.{loaded-once, open-refused-once, opened-or-refused}
use Rattle.rustsec_osv.specs.DocumentEvents.{JsonRange}
use Rattle.rustsec_osv.specs.Documents.{Document}
use Rattle.rustsec_osv.specs.Events.{events_of}
use Rattle.rustsec_osv.specs.Export.{IsDocument, IsRangeOf, document_with}
use Rattle.rustsec_report.specs.EndToEnd.{IsReportOfText}
use Rattle.rustsec_report.specs.Report.{report_of}
use Rattle.rustsec_report.specs.declared.report.Report.{Report}
use Rattle.rustsec_report.specs.declared.settings.Settings.{Settings}
use Rattle.rustsec_commands.specs.command.Audit.{audit_output}
use Rattle.rustsec_commands.specs.Commands.{HaveOneOutput, IsOutputOf, reads_input}
use Rattle.rustsec_commands.specs.command.Lint.{IsLintOutput, errors_output}
use Rattle.rustsec_commands.specs.command.Lint as lints
use Rattle.rustsec_commands.specs.args.Options.{Options, options_of}
use Rattle.rustsec_commands.specs.command.Osv.{IsDocumentOf, IsExportRefusal, IsOsvOutput, IsOsvRefusal, document_output}
use Rattle.rustsec_commands.specs.command.Osv as documents
use Rattle.rustsec_commands.specs.Output.{Output, refused_as}
use Rattle.rustsec_commands.specs.command.Reports.{IsAuditOutput, IsOutputOver, IsReportOfPaths, IsReportRefusal, audited, misread, misused, report_output, settings_with}
use Rattle.rustsec_commands.specs.command.Reports as reports
use Rattle.rustsec_commands.specs.args.Words.{Command, affected, audit, command_of, lint, none, osv, ranges, report}

-- ---- refusals that are not out of memory

pub no-memory : {P : Type 0} (e : Failure) → e.kind ≢ kind.OutOfMemory → IsMemory e → P
no-memory e other memory = absurd (other (ap (λ (f : Failure). f.kind) memory))

real : {P : Type 0} (k : ErrorKind) (e : Failure) → e.kind ≢ kind.OutOfMemory → IsRefusal k P e → (e.kind ≡ k) × P
real k e other (inl h) = h
real k e other (inr memory) = no-memory e other memory

pub kinds-of : (e f : Failure) → e.kind ≢ kind.OutOfMemory → f.kind ≢ kind.OutOfMemory → (e.kind ≡ f.kind) ⊎ (IsMemory e ⊎ IsMemory f) → e.kind ≡ f.kind
kinds-of e f u v (inl same) = same
kinds-of e f u v (inr (inl memory)) = no-memory e u memory
kinds-of e f u v (inr (inr memory)) = no-memory f v memory

pub same-output : (e f : Failure) (o p : Output) → e.kind ≡ f.kind → o ≡ refused_as e.kind → p ≡ refused_as f.kind → o ≡ p
same-output e f o p same h k = h ∙ (ap refused_as same ∙ sym k)

some-same : {A : Type 0} (a b : A) → Some a ≡ Some b → a ≡ b
some-same a b h = cc h

one-value : {A : Type 0} (o : Option A) (a b : A) → o ≡ Some a → o ≡ Some b → a ≡ b
one-value o a b h k = some-same a b (sym h ∙ k)

pub none-or-some : {A P : Type 0} (o : Option A) (a : A) → o ≡ None → o ≡ Some a → P
none-or-some o a h k = absurd (cc (sym h ∙ k))

-- ---- documents

range-once : (ls : Lists) (r q : JsonRange) → IsRangeOf ls r → IsRangeOf ls q → r ≡ q
range-once ls r q h k =
    let same = ranges-one ls ls h.ranges k.ranges (IsPermutation-refl (ls.patched ++ ls.unaffected)) h.are_ranges k.are_ranges in
    let kinds = h.kind ∙ sym k.kind in
    let events = h.events ∙ (ap events_of (sym same) ∙ sym k.events) in
    λ i. record { kind = kinds i; events = events i }

pub document-once : (a : Advisory) (modified : List ℕ) (d e : Document) → IsDocument a modified d → IsDocument a modified e → d ≡ e
document-once a modified d e h k =
    let range = range-once a.versions h.range k.range h.is_range k.is_range in
    let references = one-value _ h.references k.references h.are_references k.are_references in
    let step : document_with a.metadata a.affected modified h.references h.range ≡ document_with a.metadata a.affected modified k.references k.range =
    λ i. document_with a.metadata a.affected modified (references i) (range i) in
    h.is ∙ (step ∙ sym k.is)

pub document-or-refused : {P : Type 0} (a : Advisory) (modified : List ℕ) (d : Document) (e : Failure) → e.kind ≢ kind.OutOfMemory
    → IsDocument a modified d → IsExportRefusal a e → P
document-or-refused a modified d e other h (inl k) = absurd (h.is_range.some (real kind.BadParam e other k).1)
document-or-refused a modified d e other h (inr k) = none-or-some _ h.references (real kind.Parse e other k).1.1 h.are_references

pub export-refused-once : (a : Advisory) (e f : Failure) → e.kind ≢ kind.OutOfMemory → f.kind ≢ kind.OutOfMemory → IsExportRefusal a e → IsExportRefusal a f
    → e.kind ≡ f.kind
export-refused-once a e f u v (inl h) (inl k) = (real kind.BadParam e u h).0 ∙ sym (real kind.BadParam f v k).0
export-refused-once a e f u v (inl h) (inr k) = absurd ((real kind.Parse f v k).1.0 (real kind.BadParam e u h).1)
export-refused-once a e f u v (inr h) (inl k) = absurd ((real kind.Parse e u h).1.0 (real kind.BadParam f v k).1)
export-refused-once a e f u v (inr h) (inr k) = (real kind.Parse e u h).0 ∙ sym (real kind.Parse f v k).0

-- ---- the file at a path

module _ (allowed : Allowed) (once : AnswersOnce allowed) where
  advisory-once : (path : List ℕ) (a b : Advisory) → IsAdvisoryAt allowed path a → IsAdvisoryAt allowed path b → a ≡ b
  advisory-once path a b (text, (read, is)) (other, (again, also)) =
      let same = text-once allowed once path text other read again in
      advisory_unique other a b (subst (λ (t : List ℕ). IsAdvisory t a) same is) also

  advisory-or-refused : {P : Type 0} (path : List ℕ) (a : Advisory) (e : Failure) → e.kind ≢ kind.OutOfMemory → IsAdvisoryAt allowed path a
      → IsAdvisoryRefusal allowed path e → P
  advisory-or-refused path a e u (text, (read, is)) (inl h) = read-or-not allowed once path text read (real kind.Io e u h).1
  advisory-or-refused path a e u (text, (read, is)) (inr (other, (again, h))) =
      let same = text-once allowed once path text other read again in
      absurd ((real kind.Parse e u h).1 a (subst (λ (t : List ℕ). IsAdvisory t a) same is))

  file-refused-once : (path : List ℕ) (e f : Failure) → e.kind ≢ kind.OutOfMemory → f.kind ≢ kind.OutOfMemory → IsAdvisoryRefusal allowed path e
      → IsAdvisoryRefusal allowed path f → e.kind ≡ f.kind
  file-refused-once path e f u v (inl h) (inl k) = (real kind.Io e u h).0 ∙ sym (real kind.Io f v k).0
  file-refused-once path e f u v (inl h) (inr (text, (read, k))) = read-or-not allowed once path text read (real kind.Io e u h).1
  file-refused-once path e f u v (inr (text, (read, h))) (inl k) = read-or-not allowed once path text read (real kind.Io f v k).1
  file-refused-once path e f u v (inr (text, (read, h))) (inr (other, (again, k))) = (real kind.Parse e u h).0 ∙ sym (real kind.Parse f v k).0

  -- ---- lint

  lints-once : (path : List ℕ) (a b : Advisory) (fs gs : List LintError) → AreLintsAt allowed path a fs → AreLintsAt allowed path b gs → fs ≡ gs
  lints-once path a b fs gs (m, (text, (read, is))) (n, (other, (again, also))) =
      let same = text-once allowed once path text other read again in
      (lints_unique other (Some (is_draft path)) a b fs gs (subst (λ (t : List ℕ). Lints t (Some (is_draft path)) a fs) same is) also).1

  linted-or-refused : {P : Type 0} (path : List ℕ) (a : Advisory) (fs : List LintError) (e : Failure) → e.kind ≢ kind.OutOfMemory
      → AreLintsAt allowed path a fs → IsLintRefusal allowed path e → P
  linted-or-refused path a fs e u (m, rest) (inl h) = absurd (cc (sym m ∙ (real kind.Parse e u h).1))
  linted-or-refused path a fs e u (m, (text, (read, is))) (inr (n, h)) =
      advisory-or-refused path a e u (text, (read, (is.document, is.is_advisory))) h

  lint-refused-once : (path : List ℕ) (e f : Failure) → e.kind ≢ kind.OutOfMemory → f.kind ≢ kind.OutOfMemory → IsLintRefusal allowed path e
      → IsLintRefusal allowed path f → e.kind ≡ f.kind
  lint-refused-once path e f u v (inl h) (inl k) = (real kind.Parse e u h).0 ∙ sym (real kind.Parse f v k).0
  lint-refused-once path e f u v (inl h) (inr (n, k)) = absurd (cc (sym n ∙ (real kind.Parse e u h).1))
  lint-refused-once path e f u v (inr (m, h)) (inl k) = absurd (cc (sym m ∙ (real kind.Parse f v k).1))
  lint-refused-once path e f u v (inr (m, h)) (inr (n, k)) = file-refused-once path e f u v h k

  lint-once : (path : List ℕ) (o p : Output) → IsLintOutput allowed path o → IsLintOutput allowed path p → o ≡ p
  lint-once path o p (lints.linted a fs h is) (lints.linted b gs k also) = is ∙ (ap errors_output (lints-once path a b fs gs h k) ∙ sym also)
  lint-once path o p (lints.linted a fs h is) (lints.refused e k u also) = linted-or-refused path a fs e u h k
  lint-once path o p (lints.refused e h u is) (lints.linted a fs k also) = linted-or-refused path a fs e u k h
  lint-once path o p (lints.refused e h u is) (lints.refused f k v also) = same-output e f o p (lint-refused-once path e f u v h k) is also

  -- ---- osv

  osv-document-or-refused : {P : Type 0} (path modified : List ℕ) (d : Document) (e : Failure) → e.kind ≢ kind.OutOfMemory
      → IsDocumentOf allowed path modified d → IsOsvRefusal allowed path e → P
  osv-document-or-refused path modified d e u (a, (at, is)) (inl h) = advisory-or-refused path a e u at h
  osv-document-or-refused path modified d e u (a, (at, is)) (inr (b, (there, h))) =
      let same = advisory-once path a b at there in
      document-or-refused b modified d e u (subst (λ (x : Advisory). IsDocument x modified d) same is) h

  osv-refused-once : (path : List ℕ) (e f : Failure) → e.kind ≢ kind.OutOfMemory → f.kind ≢ kind.OutOfMemory → IsOsvRefusal allowed path e
      → IsOsvRefusal allowed path f → e.kind ≡ f.kind
  osv-refused-once path e f u v (inl h) (inl k) = file-refused-once path e f u v h k
  osv-refused-once path e f u v (inl h) (inr (a, (at, k))) = advisory-or-refused path a e u at h
  osv-refused-once path e f u v (inr (a, (at, h))) (inl k) = advisory-or-refused path a f v at k
  osv-refused-once path e f u v (inr (a, (at, h))) (inr (b, (there, k))) =
      let same = advisory-once path a b at there in
      export-refused-once b e f u v (subst (λ (x : Advisory). IsExportRefusal x e) same h) k

  osv-once : (path modified : List ℕ) (o p : Output) → IsOsvOutput allowed path modified o → IsOsvOutput allowed path modified p → o ≡ p
  osv-once path modified o p (documents.exported d (a, (at, h)) is) (documents.exported e (b, (there, k)) also) =
      let same = advisory-once path a b at there in
      let one = document-once b modified d e (subst (λ (x : Advisory). IsDocument x modified d) same h) k in
      is ∙ (ap document_output one ∙ sym also)
  osv-once path modified o p (documents.exported d h is) (documents.refused e k u also) = osv-document-or-refused path modified d e u h k
  osv-once path modified o p (documents.refused e h u is) (documents.exported d k also) = osv-document-or-refused path modified d e u k h
  osv-once path modified o p (documents.refused e h u is) (documents.refused f k v also) = same-output e f o p (osv-refused-once path e f u v h k) is also

  -- ---- report and audit

  text-report-once : (files : List SourceFile) (text : List ℕ) (s : Settings) (r q : Report) → IsReportOfText files text s r → IsReportOfText files text s q
      → r ≡ q
  text-report-once files text s r q (table, (document, h)) (other, (again, k)) =
      let same = one-value (parse_document text) table other document again in
      let loaded = loaded-once files h.advisories k.advisories h.are_loaded k.are_loaded in
      let packages = one-value (packages_of other) h.packages k.packages (subst (λ (t : Members). packages_of t ≡ Some h.packages) same h.are_packages) k.are_packages in
      let step : report_of h.advisories h.packages s ≡ report_of k.advisories k.packages s = λ i. report_of (loaded i) (packages i) s in
      h.in_order ∙ (step ∙ sym k.in_order)

  report-of-once : (root lock : List ℕ) (s : Settings) (r q : Report) → IsReportOfPaths allowed root lock s r → IsReportOfPaths allowed root lock s q
      → r ≡ q
  report-of-once root lock s r q (files, (listed, (text, (read, h)))) (files', (listed', (text', (read', k)))) =
      let same = listed-once allowed once root files files' listed listed' in
      let also = text-once allowed once lock text text' read read' in
      let moved = subst (λ (fs : List SourceFile). IsReportOfText fs text s r) same h in
      text-report-once files' text' s r q (subst (λ (t : List ℕ). IsReportOfText files' t s r) also moved) k

  holds-packages : {P : Type 0} (document : Option Members) (table : Members) (packages : List PackageValue) → document ≡ Some table
      → packages_of table ≡ Some packages → document >>= packages_of ≡ None → P
  holds-packages None table packages is h missing = absurd (cc is)
  holds-packages (Some other) table packages is h missing =
      none-or-some (packages_of table) packages (subst (λ (t : Members). packages_of t ≡ None) (some-same other table is) missing) h

  lockfile-or-refused : {P : Type 0} (files : List SourceFile) (lock text : List ℕ) (s : Settings) (r : Report) (e : Failure) → e.kind ≢ kind.OutOfMemory
      → allowed.reads lock (Some text) → IsReportOfText files text s r → IsLockfileRefusal allowed lock e → P
  lockfile-or-refused files lock text s r e u read h (inl k) = read-or-not allowed once lock text read (real kind.Io e u k).1
  lockfile-or-refused files lock text s r e u read (table, (document, h)) (inr (other, (again, k))) =
      let same = text-once allowed once lock other text again read in
      holds-packages (parse_document text) table h.packages document h.are_packages
      (subst (λ (t : List ℕ). lockfile_of t ≡ None) same (real kind.Parse e u k).1)

  report-or-refused : {P : Type 0} (root lock : List ℕ) (s : Settings) (r : Report) (e : Failure) → e.kind ≢ kind.OutOfMemory
      → IsReportOfPaths allowed root lock s r → IsReportRefusal allowed root lock e → P
  report-or-refused root lock s r e u (files, (listed, (text, (read, (table, (document, h)))))) (inl k) =
      no-memory e u (opened-or-refused allowed once root h.advisories e (files, (listed, h.are_loaded)) k)
  report-or-refused root lock s r e u (files, (listed, (text, (read, h)))) (inr (opened, k)) = lockfile-or-refused files lock text s r e u read h k

  lockfile-refused-once : (lock : List ℕ) (e f : Failure) → e.kind ≢ kind.OutOfMemory → f.kind ≢ kind.OutOfMemory → IsLockfileRefusal allowed lock e
      → IsLockfileRefusal allowed lock f → e.kind ≡ f.kind
  lockfile-refused-once lock e f u v (inl h) (inl k) = (real kind.Io e u h).0 ∙ sym (real kind.Io f v k).0
  lockfile-refused-once lock e f u v (inl h) (inr (text, (read, k))) = read-or-not allowed once lock text read (real kind.Io e u h).1
  lockfile-refused-once lock e f u v (inr (text, (read, h))) (inl k) = read-or-not allowed once lock text read (real kind.Io f v k).1
  lockfile-refused-once lock e f u v (inr (text, (read, h))) (inr (other, (again, k))) = (real kind.Parse e u h).0 ∙ sym (real kind.Parse f v k).0

  report-refused-once : (root lock : List ℕ) (e f : Failure) → e.kind ≢ kind.OutOfMemory → f.kind ≢ kind.OutOfMemory
      → IsReportRefusal allowed root lock e → IsReportRefusal allowed root lock f → e.kind ≡ f.kind
  report-refused-once root lock e f u v (inl h) (inl k) = kinds-of e f u v (open-refused-once allowed once root e f h k)
  report-refused-once root lock e f u v (inl h) (inr (opened, k)) = no-memory e u (opened-or-refused allowed once root opened.0 e opened.1 h)
  report-refused-once root lock e f u v (inr (opened, h)) (inl k) = no-memory f v (opened-or-refused allowed once root opened.0 f opened.1 k)
  report-refused-once root lock e f u v (inr (opened, h)) (inr (again, k)) = lockfile-refused-once lock e f u v h k

  over-once : (write : Report → Output) (root lock : List ℕ) (s : Settings) (o p : Output) → IsOutputOver write allowed root lock s o
      → IsOutputOver write allowed root lock s p → o ≡ p
  over-once write root lock s o p (reports.reported r h is) (reports.reported q k also) = is ∙ (ap write (report-of-once root lock s r q h k) ∙ sym also)
  over-once write root lock s o p (reports.reported r h is) (reports.refused e k u also) = report-or-refused root lock s r e u h k
  over-once write root lock s o p (reports.refused e h u is) (reports.reported r k also) = report-or-refused root lock s r e u k h
  over-once write root lock s o p (reports.refused e h u is) (reports.refused f k v also) =
      same-output e f o p (report-refused-once root lock e f u v h k) is also

  audited-once : (root lock : List ℕ) (o q : Output) (p r : Options) (ids others : List IdValue) → p ≡ r → read_all id_of p.ignored ≡ Some ids
      → read_all id_of r.ignored ≡ Some others → IsOutputOver (audit_output p.deny_warnings) allowed root lock (settings_with ids) o
      → IsOutputOver (audit_output r.deny_warnings) allowed root lock (settings_with others) q → o ≡ q
  audited-once root lock o q p r ids others same read again h k =
      let also = one-value (read_all id_of r.ignored) ids others (subst (λ (x : Options). read_all id_of x.ignored ≡ Some ids) same read) again in
      let moved = subst (λ (x : Options). IsOutputOver (audit_output x.deny_warnings) allowed root lock (settings_with ids) o) same h in
      over-once (audit_output r.deny_warnings) root lock (settings_with others) o q
      (subst (λ (xs : List IdValue). IsOutputOver (audit_output r.deny_warnings) allowed root lock (settings_with xs) o) also moved) k

  audit-once : (root lock : List ℕ) (words : List (List ℕ)) (o q : Output) → IsAuditOutput allowed root lock words o → IsAuditOutput allowed root lock words q
      → o ≡ q
  audit-once root lock words o q (misused missing is) (misused again also) = is ∙ sym also
  audit-once root lock words o q (misused missing is) (misread p some h also) = none-or-some (options_of words) p missing some
  audit-once root lock words o q (misused missing is) (audited p ids some h k) = none-or-some (options_of words) p missing some
  audit-once root lock words o q (misread p some h is) (misused missing also) = none-or-some (options_of words) p missing some
  audit-once root lock words o q (misread p some h is) (misread r again k also) = is ∙ sym also
  audit-once root lock words o q (misread p some h is) (audited r ids again k over) =
      let same = one-value (options_of words) p r some again in
      none-or-some (read_all id_of r.ignored) ids (subst (λ (x : Options). read_all id_of x.ignored ≡ None) same h) k
  audit-once root lock words o q (audited p ids some h over) (misused missing also) = none-or-some (options_of words) p missing some
  audit-once root lock words o q (audited p ids some h over) (misread r again k also) =
      let same = one-value (options_of words) r p again some in
      none-or-some (read_all id_of p.ignored) ids (subst (λ (x : Options). read_all id_of x.ignored ≡ None) same k) h
  audit-once root lock words o q (audited p ids some h over) (audited r others again k more) =
      audited-once root lock o q p r ids others (one-value (options_of words) p r some again) h k over more

  -- ---- all commands

  unknown : {P : Type 0} (input : Option (List ℕ)) → input ≡ None → (true ≡ true → input ≢ None) → P
  unknown input is h = absurd (h refl is)

  output-once : (c : Command) (input : Option (List ℕ)) → (reads_input c ≡ true → input ≢ None) → (o p : Output) → IsOutputOf allowed c input o
      → IsOutputOf allowed c input p → o ≡ p
  output-once affected None is o p h k = unknown None refl is
  output-once affected (Some bytes) is o p h k = h ∙ sym k
  output-once ranges None is o p h k = unknown None refl is
  output-once ranges (Some bytes) is o p h k = k.1 o h.0
  output-once (lint path) input is o p h k = lint-once path o p h k
  output-once (osv path modified) input is o p h k = osv-once path modified o p h k
  output-once (report root lock) input is o p h k = over-once report_output root lock (settings_with []) o p h k
  output-once (audit root lock words) input is o p h k = audit-once root lock words o p h k
  output-once none input is o p h k = h ∙ sym k

pub one-output-of : (allowed : Allowed) (words : List (List ℕ)) (input : Option (List ℕ)) → AnswersOnce allowed → HaveOneOutput allowed words input
one-output-of allowed words input once is one other h k = output-once allowed once (command_of words) input is one other h k
