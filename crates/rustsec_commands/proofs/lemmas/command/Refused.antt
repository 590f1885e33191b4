-- The output of `audit` for an ID that is refused; the report on a lockfile that is read before the database is opened.
use Rattle.std.proofs.Common.{◌≡◌, ◌≢◌, ◌∙◌, ℕ, Bool, List, None, Some, ap, inl, inr}
use Rattle.std.specs.List.{filter}
use Rattle.rustsec_values.specs.Reading.{read_all}
use Rattle.rustsec_values.specs.Failure.{Failure, IsRefusal}
use Rattle.rustsec_values.specs.declared.error.ErrorKind.TheVariants as kind
use Rattle.rustsec_values.proofs.Refusals.{refused_by}
use Rattle.rustsec_files.specs.Allowed.{Allowed, AllowSame}
use Rattle.rustsec_files.proofs.Same.{all-of-same, listed-before}
use Rattle.rustsec_lock.specs.Lockfile.{IsLockfileAt, IsLockfileRefusal}
use Rattle.rustsec_lock.specs.Package.{PackageValue}
use Rattle.rustsec_texts.specs.Ids.{id_of}
use Rattle.rustsec_advisory.specs.declared.advisory.Advisory.{Advisory}
use Rattle.rustsec_database.specs.Kept.{AreOpenedFor, KeptValue, touches_any}
use Rattle.rustsec_database.specs.Opened.{IsOpenRefusal}
use Rattle.rustsec_report.proofs.EndToEnd.{report-of-text}
use Rattle.rustsec_report.proofs.KeptReports.{kept-chain}
use Rattle.rustsec_report.specs.Report.{report_of}
use Rattle.rustsec_report.specs.declared.report.Report.{Report}
use Rattle.rustsec_report.specs.declared.settings.Settings.{Settings}
use Rattle.rustsec_commands.specs.args.Options.{Options, options_of}
use Rattle.rustsec_commands.specs.Output.{Output, refused_as}
use Rattle.rustsec_commands.specs.command.Reports.{AreReadFrom, InputsValue, IsAuditOutput, IsReportOfPaths, IsReportRefusal, misread}

pub misread-by : (allowed : Allowed) (root lock : List ℕ) (words : List (List ℕ)) (o : Output) (p : Options) (e : Failure) → options_of words ≡ Some p
    → IsRefusal kind.Parse (read_all id_of p.ignored ≡ None) e → e.kind ≢ kind.OutOfMemory → o ≡ refused_as e.kind → IsAuditOutput allowed root lock words o
misread-by allowed root lock words o p e known (inl (k, none)) other is = misread p known none (is ∙ ap refused_as k)
misread-by allowed root lock words o p e known (inr memory) other is = absurd (other (ap (λ (f : Failure). f.kind) memory))

-- ---- what is listed under a root after the lockfile was read, by what was allowed before

pub refused-before : (a b : Allowed) (root : List ℕ) (e : Failure) → AllowSame a b → IsOpenRefusal b root e → IsOpenRefusal a root e
refused-before a b root e same (inl refusal) = inl (refused_by kind.Io e (λ h. listed-before a b root None (all-of-same a b same) h) refusal)
refused-before a b root e same (inr (files, (listed, fault))) = inr (files, (listed-before a b root (Some files) (all-of-same a b same) listed, fault))

-- ---- the report on a lockfile that was read before the database was opened

-- the packages for which advisories were kept are those of the lockfile
pub read-from : (a b : Allowed) (root lock : List ℕ) (read packages : List PackageValue) (k : KeptValue) (advisories : List Advisory)
    → AllowSame a b → AreOpenedFor b root (touches_any read) k → advisories ≡ k.advisories → read ≡ packages → IsLockfileAt a lock packages
    → AreReadFrom a root lock (record { advisories = advisories; packages = packages })
read-from a b root lock read packages k advisories same (all, ((files, (listed, load)), kept)) are is there = (
  (all, ((files, (listed-before a b root (Some files) (all-of-same a b same) listed, load)), are ∙ (kept.advisories ∙ ap (λ (ps : List PackageValue). filter (touches_any ps) all) is))),
  there,
)

pub report-of-paths : (allowed : Allowed) (root lock : List ℕ) (s : Settings) (i : InputsValue) (r : Report)
    → AreReadFrom allowed root lock i → r ≡ report_of i.advisories i.packages s → IsReportOfPaths allowed root lock s r
report-of-paths allowed root lock s i r ((all, ((files, (listed, load)), affecting)), (text, (there, locked))) is = (
  files,
  (
    listed,
    (
      text,
      (
        there,
        report-of-text files text s all i.packages r load locked
            (λ fs table loaded holds. kept-chain r all i.advisories i.packages s is fs table affecting loaded holds),
      ),
    ),
  ),
)

pub lockfile-refused : (a b : Allowed) (root lock : List ℕ) (test : Advisory → Bool) (k : KeptValue) (e : Failure) → AllowSame a b
    → AreOpenedFor b root test k → IsLockfileRefusal a lock e → IsReportRefusal a root lock e
lockfile-refused a b root lock test k e same (all, ((files, (listed, load)), kept)) h =
    inr ((all, (files, (listed-before a b root (Some files) (all-of-same a b same) listed, load))), h)
