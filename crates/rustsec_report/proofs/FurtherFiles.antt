-- The report of one more file.
use Rattle.std.proofs.Common.{◌≡◌, ◌∙◌, ◌++◌, ℕ, List, [], ◌∷◌, Some, sym, ap, subst}
use Rattle.std.specs.List.{filter}
use Rattle.rustsec_values.specs.Reading.{◌>>=◌}
use Rattle.rustsec_files.specs.declared.source_file.SourceFile.{SourceFile}
use Rattle.rustsec_lock.specs.Lockfile.{lockfile_of, packages_of}
use Rattle.rustsec_lock.specs.Package.{PackageValue}
use Rattle.rustsec_advisory.specs.declared.advisory.Advisory.{Advisory}
use Rattle.rustsec_database.proofs.FurtherFile.{loaded-with}
use Rattle.rustsec_database.proofs.Once.{loaded-once}
use Rattle.rustsec_database.specs.Loaded.{AreLoaded, is_stored}
use Rattle.rustsec_report.specs.EndToEnd.{IsReportOfText}
use Rattle.rustsec_report.specs.Report.{report_of}
use Rattle.rustsec_report.specs.ReportLaws.{AddTheirOwn, AddsItsOwn}
use Rattle.rustsec_report.specs.declared.report.Report.{Report}
use Rattle.rustsec_report.specs.declared.settings.Settings.{Settings}
use Rattle.rustsec_report.proofs.ReportLaws.{add_their_own}

pub adds_its_own : (files : List SourceFile) (text : List ℕ) (s : Settings) (advisories : List Advisory) (packages : List PackageValue) (r : Report)
    → AreLoaded files advisories → lockfile_of text ≡ Some packages → r ≡ report_of advisories packages s
    → (file : SourceFile) (more : Report) → IsReportOfText (files ++ file ∷ []) text s more → AddsItsOwn files file text s r more
adds_its_own files text s advisories packages r loaded locked is file more (table, (document, also)) =
    let with = loaded-with files file also.advisories also.are_loaded in
    let same = loaded-once files with.before advisories with.are_loaded loaded in
    let here : lockfile_of text ≡ Some also.packages = ap (λ d. d >>= packages_of) document ∙ also.are_packages in
    let locks : also.packages ≡ packages = cc (sym here ∙ locked) in
    let others = filter is_stored (with.one ∷ []) in
    let are : also.advisories ≡ advisories ++ others = with.more_are ∙ ap (λ l. l ++ others) same in
    let after : more ≡ report_of (advisories ++ others) packages s = also.in_order ∙ (λ i. report_of (are i) (locks i) s) in
    record {
      advisories = advisories;
      packages = packages;
      one = with.one;
      are_loaded = loaded;
      are_packages = locked;
      is_filed = with.is_filed;
      adds = subst (AddTheirOwn advisories others packages s r) (sym after) (add_their_own r advisories others packages s is);
    }
