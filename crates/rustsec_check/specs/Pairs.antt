-- Which pairs of a package and an advisory a check finds: those of a report.
use Rattle.std.specs.Prelude.{◌++◌, not, ℕ, Bool, if◌then◌else◌, List, Option, Some, None, filter_map, is_some, map, option_and_then, option_map}
use Rattle.std.specs.List.{enumerate_from, filter, flat_map}
use Rattle.rustsec_lock.specs.Package.{PackageValue}
use Rattle.rustsec_texts.specs.Ids.{IdValue}
use Rattle.rustsec_advisory.specs.declared.advisory.Advisory.{Advisory}
use Rattle.rustsec_database.specs.Pairs.{finds}
use Rattle.rustsec_database.specs.Query.{Asked}
use Rattle.rustsec_report.specs.Report.{informational_query, is_among, query_of, wanted_kind}
use Rattle.rustsec_report.specs.declared.settings.Settings.{Settings}
use Rattle.rustsec_check.specs.Values.{Found, IgnoredValue}

-- a vulnerability of the package at a place
abbrev pub as_vulnerable : ℕ × PackageValue → Advisory → Found
as_vulnerable placed a = record { kind = None; advisory = a; «package» = placed.1; place = placed.0 }

-- a warning about the package at a place, if the settings ask for warnings of the advisory's informational kind
abbrev pub as_wanted : Settings → ℕ × PackageValue → Advisory → Option Found
as_wanted s placed a = option_map (λ k. record { kind = Some k; advisory = a; «package» = placed.1; place = placed.0 })
    (option_and_then (wanted_kind s) a.metadata.informational)

-- the vulnerabilities of the package at a place, and then the warnings about it, both in the order of the advisories
unfoldable pub vulnerable_at : List Advisory → Settings → ℕ × PackageValue → List Found
vulnerable_at advisories s placed = map (as_vulnerable placed) (filter (finds (query_of s) placed.1) advisories)

unfoldable pub wanted_at : List Advisory → Settings → ℕ × PackageValue → List Found
wanted_at advisories s placed = filter_map (as_wanted s placed) (filter (finds (informational_query s) placed.1) advisories)

abbrev pub found_at : List Advisory → Settings → ℕ × PackageValue → List Found
found_at advisories s placed = vulnerable_at advisories s placed ++ wanted_at advisories s placed

-- the pairs of all packages, package by package
unfoldable pub found : List Advisory → List PackageValue → Settings → List Found
found advisories packages s = flat_map (found_at advisories s) (enumerate_from 0 packages)

-- whether the advisory of a pair is ignored
abbrev pub is_ignored : List IdValue → Found → Bool
is_ignored ids f = is_among ids f.advisory.metadata.id

-- the pairs whose advisory is not ignored, and the others
abbrev pub counted : List IdValue → List Found → List Found
counted ids fs = filter (λ f. not (is_ignored ids f)) fs

abbrev pub left_out : List IdValue → List Found → List Found
left_out ids fs = filter (is_ignored ids) fs

-- a pair without the place of its package
abbrev pub as_ignored : Found → IgnoredValue
as_ignored f = record { kind = f.kind; advisory = f.advisory; «package» = f.«package» }

-- ---- one query for both, which only helps proofs

-- the query of settings for vulnerabilities and for informational advisories together
abbrev pub query_of_both : Settings → Asked
query_of_both s = record (query_of s) { informational = None }

-- a vulnerability of the package at a place, unless the advisory is informational
abbrev pub as_unwarned : ℕ × PackageValue → Advisory → Option Found
as_unwarned placed a = if is_some a.metadata.informational then None else Some (as_vulnerable placed a)
