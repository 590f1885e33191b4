-- The report by the advisories that affect a package of the lockfile is the report by all advisories.
use Rattle.std.proofs.Common.{◌≡◌, ◌∙◌, ◌&&◌, ◌++◌, Bool, true, List, [], ◌∷◌, Some, map, nat_eq, refl, sym, ap}
use Rattle.std.specs.Cmp.{first_so, second_so}
use Rattle.std.specs.Cmp.Lexicographic.{bytes_decides, pointwise}
use Rattle.std.specs.List.{filter}
use Rattle.std.proofs.lemmas.Bool.{and_from, or_left, or_right}
use Rattle.toml.specs.Data.{Members}
use Rattle.rustsec_files.specs.declared.source_file.SourceFile.{SourceFile}
use Rattle.rustsec_versions.specs.acceptance.Lists.{affected}
use Rattle.rustsec_lock.specs.Lockfile.{packages_of}
use Rattle.rustsec_lock.specs.Package.{PackageValue}
use Rattle.rustsec_advisory.specs.declared.advisory.Advisory.{Advisory}
use Rattle.rustsec_database.specs.Pairs.{Pair, as_vulnerability, finds, is_audited, pairs, pairs_of}
use Rattle.rustsec_database.specs.Query.{Asked, of_package}
use Rattle.rustsec_database.specs.Selects.{as_informational, as_withdrawn, has_name, has_source, has_version, in_collection, is_severe, of_year, on_arch, on_os, selects}
use Rattle.rustsec_database.proofs.Places.{narrow}
use Rattle.rustsec_database.specs.Kept.{touches, touches_any}
use Rattle.rustsec_database.specs.Loaded.{AreLoaded}
use Rattle.rustsec_report.proofs.EndToEnd.{report-chain}
use Rattle.rustsec_report.specs.EndToEnd.{IsReportOf}
use Rattle.rustsec_report.specs.Report.{info_of, informational_query, query_of, report_of, warnings_by_kind, without}
use Rattle.rustsec_report.specs.declared.report.Report.{Report}
use Rattle.rustsec_report.specs.declared.settings.Settings.{Settings}

-- ---- one pair

-- an advisory that a query selects passes the first three of the ten tests
first-three : (q : Asked) (a : Advisory) → selects q a ≡ true → (in_collection q a && has_name q a && has_version q a) ≡ true
unfolding selects
first-three q a h =
    first_so _ (has_source q a) (first_so _ (is_severe q a) (first_so _ (on_arch q a) (first_so _ (on_os q a)
    (first_so _ (of_year q a) (first_so _ (as_withdrawn q a) (first_so _ (as_informational q a) h))))))

-- an advisory that a query finds for a package is about it, and affects its version
found-touches : (q : Asked) (p : PackageValue) (a : Advisory) → finds q p a ≡ true → touches a p ≡ true
found-touches q p a h =
    let asked = of_package q p in
    let three = first-three asked a (second_so (is_audited p) (selects asked a) h) in
    let two = first_so (in_collection asked a && has_name asked a) (has_version asked a) three in
    let named : pointwise nat_eq p.name a.metadata.«package» ≡ true = second_so (in_collection asked a) (has_name asked a) two in
    let version : affected a.versions p.version ≡ true = second_so (in_collection asked a && has_name asked a) (has_version asked a) three in
    and_from _ _
    ((bytes_decides a.metadata.«package» p.name).1 (sym ((bytes_decides p.name a.metadata.«package»).0 named))) version

-- ---- all pairs

pair-of : PackageValue → Advisory → Pair
pair-of p a = record { of = p; by = a }

pairs-kept : (advisories : List Advisory) (q : Asked) (packages : List PackageValue) (test : Advisory → Bool)
    → ((a : Advisory) → touches_any packages a ≡ true → test a ≡ true) → pairs (filter test advisories) packages q ≡ pairs advisories packages q
unfolding pairs pair-of
pairs-kept advisories q [] test only = refl
pairs-kept advisories q (p ∷ packages) test only =
    let first : pairs_of (filter test advisories) q p ≡ pairs_of advisories q p =
    ap (map (pair-of p)) (narrow test (finds q p) (λ a h. only a (or_left (touches a p) (touches_any packages a) (found-touches q p a h))) advisories) in
    let rest = pairs-kept advisories q packages test (λ a h. only a (or_right (touches a p) (touches_any packages a) h)) in
    λ i. first i ++ rest i

-- ---- the report

report-kept : (advisories : List Advisory) (packages : List PackageValue) (s : Settings)
    → report_of (filter (touches_any packages) advisories) packages s ≡ report_of advisories packages s
report-kept advisories packages s =
    let one = pairs-kept advisories (query_of s) packages (touches_any packages) (λ a h. h) in
    let two = pairs-kept advisories (informational_query s) packages (touches_any packages) (λ a h. h) in
    λ i. record (report_of advisories packages s) {
      vulnerabilities = info_of (without s.ignore (map as_vulnerability (one i)));
      warnings = warnings_by_kind s (without s.ignore (map as_vulnerability (two i)));
    }

kept-report : (r : Report) (all kept : List Advisory) (packages : List PackageValue) (s : Settings)
    → r ≡ report_of kept packages s → kept ≡ filter (touches_any packages) all → r ≡ report_of all packages s
kept-report r all kept packages s is same =
    is ∙ (ap (λ (advisories : List Advisory). report_of advisories packages s) same ∙ report-kept all packages s)

pub kept-chain : (r : Report) (all kept : List Advisory) (packages : List PackageValue) (s : Settings)
    → r ≡ report_of kept packages s → (files : List SourceFile) (table : Members) → kept ≡ filter (touches_any packages) all → AreLoaded files all
    → packages_of table ≡ Some packages → IsReportOf files table s r
kept-chain r all kept packages s is files table same loaded locked =
    report-chain r all packages s (kept-report r all kept packages s is same) files table loaded locked
