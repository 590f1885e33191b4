-- Why a pair of a package and an advisory is not a finding: a table of reasons, each with the test that gives it.
use Rattle.std.specs.Prelude.{◌++◌, ◌&&◌, ◌||◌, not, ℕ, Bool, true, false, List, [], ◌∷◌, Option, Some, None, is_some, map, option_and_then}
use Rattle.std.specs.List.{enumerate_from, filter}
use Rattle.semver.specs.Parse.{Held, Parts}
use Rattle.rustsec_versions.specs.interval.Interval.{Interval, holds}
use Rattle.rustsec_versions.specs.requirement.Requirement.{interval_of}
use Rattle.rustsec_lock.specs.Package.{PackageValue}
use Rattle.rustsec_lock.specs.Source.{Source, is_default}
use Rattle.rustsec_texts.specs.Informational.{kind_of_warnings}
use Rattle.rustsec_texts.specs.declared.informational.Informational.{Informational}
use Rattle.rustsec_advisory.specs.declared.advisory.Advisory.{Advisory}
use Rattle.rustsec_database.specs.Pairs.{finds}
use Rattle.rustsec_database.specs.Query.{Asked, of_package}
use Rattle.rustsec_database.specs.Selects.{has_name, has_source, in_collection, is_severe, on_arch, on_os}
use Rattle.rustsec_report.specs.Report.{informational_query, is_among, is_wanted, query_of, wanted_kind}
use Rattle.rustsec_report.specs.declared.settings.Settings.{Settings}
use Rattle.rustsec_explain.specs.declared.reason.Reason.{Reason}
use Rattle.rustsec_explain.specs.declared.reason.Reason.TheVariants as reason

-- ---- findings

-- whether an advisory is ignored
abbrev pub is_ignored : Settings → Advisory → Bool
is_ignored s a = is_among s.ignore a.metadata.id

-- whether a pair is a vulnerability of a report
abbrev pub is_vulnerability : Settings → Advisory → PackageValue → Bool
is_vulnerability s a p = finds (query_of s) p a && not (is_ignored s a)

-- whether a pair is a warning of a report: whether the settings ask for the kind of warnings that its advisory gives
abbrev pub is_warning : Settings → Advisory → PackageValue → Bool
is_warning s a p =
    finds (informational_query s) p a && (not (is_ignored s a) && is_some (option_and_then (wanted_kind s) a.metadata.informational))

-- a pair is a finding if a report lists it
abbrev pub is_finding : Settings → Advisory → PackageValue → Bool
is_finding s a p = is_vulnerability s a p || is_warning s a p

-- ---- the table

-- a reason, and whether it applies
abbrev pub Row : Type 0
Row = Reason × Bool

-- whether a source is there and is not the default registry
abbrev pub is_elsewhere : Option Source → Bool
is_elsewhere None = false
is_elsewhere (Some s) = not (is_default s)

-- the query for vulnerabilities of a package
abbrev pub query_for : Settings → PackageValue → Asked
query_for s p = of_package (query_of s) p

-- the rows about where the package comes from, and what the advisory is about
abbrev pub subject_rows : Settings → Advisory → PackageValue → List Row
subject_rows s a p =
    (reason.WithoutSource, not (is_some p.source))
    ∷ (reason.NotAudited, is_elsewhere p.source)
    ∷ (reason.OtherCollection, not (in_collection (query_for s p) a))
    ∷ (reason.OtherPackage, not (has_name (query_for s p) a))
    ∷ []

-- whether an interval is there and holds a version
abbrev pub is_within : Parts → Option Interval → Bool
is_within v None = false
is_within v (Some i) = holds i v

-- the rows of a list of requirements, by their places from a number on: whether the interval of each holds the version
abbrev pub requirement_rows : (ℕ → Reason) → Parts → ℕ → List (List Held) → List Row
requirement_rows at v first rs = map (λ e. (at e.0, is_within v (interval_of e.1))) (enumerate_from first rs)

-- the reason that the requirement at a place of the patched list, or of the unaffected one, holds the version
abbrev pub held_by : Bool → ℕ → Reason
held_by true = reason.HeldByPatched
held_by false = reason.HeldByUnaffected

-- the rows of both lists
abbrev pub version_rows : Advisory → PackageValue → List Row
version_rows a p =
    requirement_rows (held_by true) p.version 0 a.versions.patched ++ requirement_rows (held_by false) p.version 0 a.versions.unaffected

-- whether the advisory is informational and its kind fails a test
abbrev pub fails : (Informational → Bool) → Option Informational → Bool
fails test None = false
fails test (Some kind) = not (test kind)

-- whether a kind gives warnings
abbrev pub warns : Informational → Bool
warns kind = is_some (kind_of_warnings kind)

-- the rows about the advisory's source, its severity and its platforms
abbrev pub limit_rows : Settings → Advisory → PackageValue → List Row
limit_rows s a p =
    (reason.OtherSource, not (has_source (query_for s p) a))
    ∷ (reason.BelowThreshold, not (is_severe (query_for s p) a))
    ∷ (reason.OtherArchitecture, not (on_arch (query_for s p) a))
    ∷ (reason.OtherSystem, not (on_os (query_for s p) a))
    ∷ []

-- the rows about whether the advisory counts
abbrev pub standing_rows : Settings → Advisory → List Row
standing_rows s a =
    (reason.Withdrawn, is_some a.metadata.withdrawn)
    ∷ (reason.KindNotWanted, fails (is_wanted s) a.metadata.informational)
    ∷ (reason.KindWithoutWarnings, fails warns a.metadata.informational)
    ∷ (reason.Ignored, is_ignored s a)
    ∷ []

-- the table of a pair
abbrev pub rows : Settings → Advisory → PackageValue → List Row
rows s a p = subject_rows s a p ++ (version_rows a p ++ (limit_rows s a p ++ standing_rows s a))

-- the reasons of the rows that apply, in order
abbrev pub applying : List Row → List Reason
applying table = map (λ row. row.0) (filter (λ row. row.1) table)

-- every reason why a pair is not a finding, in the order of the table
unfoldable pub reasons_of : Settings → Advisory → PackageValue → List Reason
reasons_of s a p = applying (rows s a p)
