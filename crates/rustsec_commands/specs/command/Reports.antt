-- The outputs of the commands over a database and a lockfile.
use Rattle.std.specs.Prelude.{◌≡◌, ◌≢◌, ◌⊎◌, ℕ, List, [], ◌∷◌, Some, None, if◌then◌else◌}
use Rattle.std.specs.List.{filter}
use Rattle.rustsec_values.specs.Reading.{read_all}
use Rattle.rustsec_values.specs.Failure.{Failure}
use Rattle.rustsec_values.specs.declared.error.ErrorKind.TheVariants as kind
use Rattle.rustsec_lock.specs.Lockfile.{IsLockfileAt, IsLockfileRefusal}
use Rattle.rustsec_lock.specs.Package.{PackageValue}
use Rattle.rustsec_texts.specs.Ids.{IdValue, id_of}
use Rattle.rustsec_texts.specs.declared.informational.Informational.TheVariants as informational
use Rattle.rustsec_advisory.specs.declared.advisory.Advisory.{Advisory}
use Rattle.rustsec_files.specs.Allowed.{Allowed}
use Rattle.rustsec_files.specs.Listed.{Listed}
use Rattle.rustsec_files.specs.declared.source_file.SourceFile.{SourceFile}
use Rattle.rustsec_database.specs.Kept.{touches_any}
use Rattle.rustsec_database.specs.Opened.{AreOpened, IsOpenRefusal}
use Rattle.rustsec_report.specs.EndToEnd.{IsReportOfText}
use Rattle.rustsec_report.specs.Trees.{report_tree}
use Rattle.rustsec_report.specs.declared.report.Report.{Report}
use Rattle.rustsec_report.specs.declared.settings.Settings.{Settings}
use Rattle.rustsec_commands.specs.command.Audit.{audit_output}
use Rattle.rustsec_commands.specs.args.Options.{Options, options_of}
use Rattle.rustsec_commands.specs.Output.{Output, refused_as, usage}
use Rattle.rustsec_json.specs.Lines.{tree_line}

-- the settings of the commands' reports: these IDs are ignored, there are warnings of the three kinds, and nothing else is set
abbrev pub settings_with : List IdValue → Settings
settings_with ignored = record {
  target_arch = [];
  target_os = [];
  severity = None;
  ignore = ignored;
  informational_warnings = informational.Notice ∷ informational.Unmaintained ∷ informational.Unsound ∷ [];
}

-- the output for a report: its tree, and status 1 if vulnerabilities were found
abbrev pub report_output : Report → Output
report_output r = record { text = tree_line (report_tree r); status = if r.vulnerabilities.found then 1 else 0 }

-- the report of the files that folders allow under a root, and of the text that they allow at the lockfile's path
abbrev pub IsReportOfPaths : Allowed → List ℕ → List ℕ → Settings → Report → Type 0
IsReportOfPaths allowed root lock s r =
    (files : List SourceFile) × (Listed allowed root (Some files) × ((text : List ℕ) × (allowed.reads lock (Some text) × IsReportOfText files text s r)))

-- the packages of a lockfile, and some advisories
pub record InputsValue : Type 0 where
  pub advisories : List Advisory
  pub packages : List PackageValue

-- the advisories are those of all that affect one of the packages
abbrev pub AreAffecting : List Advisory → InputsValue → Type 0
AreAffecting all i = i.advisories ≡ filter (touches_any i.packages) all

-- the packages of the lockfile at a path, and the advisories under a root that affect one of them
abbrev pub AreReadFrom : Allowed → List ℕ → List ℕ → InputsValue → Type 0
AreReadFrom allowed root lock i =
    ((all : List Advisory) × (AreOpened allowed root all × AreAffecting all i)) × IsLockfileAt allowed lock i.packages

-- why there is no report: the database under the root is refused; or it opens, and the lockfile at its path is refused
abbrev pub IsReportRefusal : Allowed → List ℕ → List ℕ → Failure → Type 0
IsReportRefusal allowed root lock e =
    IsOpenRefusal allowed root e ⊎ (((advisories : List Advisory) × AreOpened allowed root advisories) × IsLockfileRefusal allowed lock e)

-- an output for such a report; or the kind of a refusal, which is not out of memory
pub data IsOutputOver (write : Report → Output) (allowed : Allowed) (root lock : List ℕ) (s : Settings) (o : Output) : Type 0 where
  reported : (r : Report) → IsReportOfPaths allowed root lock s r → o ≡ write r → IsOutputOver write allowed root lock s o
  refused : (e : Failure) → IsReportRefusal allowed root lock e → e.kind ≢ kind.OutOfMemory → o ≡ refused_as e.kind
      → IsOutputOver write allowed root lock s o

-- an output of `report` for a root and the path of a lockfile
abbrev pub IsReportOutput : Allowed → List ℕ → List ℕ → Output → Type 0
IsReportOutput allowed root lock o = IsOutputOver report_output allowed root lock (settings_with []) o

-- an output of `audit` for a root, the path of a lockfile and the words after them
pub data IsAuditOutput (allowed : Allowed) (root lock : List ℕ) (words : List (List ℕ)) (o : Output) : Type 0 where
  misused : options_of words ≡ None → o ≡ usage → IsAuditOutput allowed root lock words o
  misread : (p : Options) → options_of words ≡ Some p → read_all id_of p.ignored ≡ None → o ≡ refused_as kind.Parse
      → IsAuditOutput allowed root lock words o
  audited : (p : Options) (ids : List IdValue) → options_of words ≡ Some p → read_all id_of p.ignored ≡ Some ids
      → IsOutputOver (audit_output p.deny_warnings) allowed root lock (settings_with ids) o → IsAuditOutput allowed root lock words o
