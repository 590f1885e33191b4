-- The findings that are vulnerabilities are those of a report.
use Rattle.std.proofs.Common.{◌≡◌, ◌∙◌, ◌+◌, ◌++◌, ℕ, List, [], ◌∷◌, Option, Some, None, ap, inl, inr, map, refl, sym}
use Rattle.std.specs.List.{cons_option, enumerate_from, filter, filter_map, flat_map}
use Rattle.std.specs.Option.{option_map}
use Rattle.std.specs.Prelude.{option_and_then}
use Rattle.std.proofs.lemmas.Bool.{cases_Bool}
use Rattle.std.proofs.lemmas.List.{append-nil, map-append}
use Rattle.std.proofs.lemmas.List.Elements.{filter_map-append}
use Rattle.rustsec_lock.specs.Package.{PackageValue}
use Rattle.rustsec_texts.specs.Ids.{IdValue}
use Rattle.rustsec_texts.specs.declared.warning_kind.WarningKind.{WarningKind}
use Rattle.rustsec_advisory.specs.declared.advisory.Advisory.{Advisory}
use Rattle.rustsec_database.specs.Pairs.{Pair, as_vulnerability, finds, pairs, pairs_of, vulnerability_of}
use Rattle.rustsec_database.specs.declared.vulnerability.Vulnerability.{Vulnerability}
use Rattle.rustsec_report.specs.Report.{informational_query, is_among, query_of, vulnerabilities, wanted_kind, without}
use Rattle.rustsec_report.specs.Report as report
use Rattle.rustsec_report.specs.declared.settings.Settings.{Settings}
use Rattle.rustsec_check.specs.AsReport.{unless_warning, vulnerabilities_in}
use Rattle.rustsec_check.specs.Findings.{AreFindings, pair_of}
use Rattle.rustsec_check.specs.Pairs.{as_vulnerable, as_wanted, counted, found, found_at, vulnerable_at, wanted_at}
use Rattle.rustsec_check.specs.Values.{FindingValue, Found, SubjectValue}

abbrev one : Found → Option Vulnerability
one f = unless_warning f.kind f.advisory f.«package»

of-pairs : (findings : List FindingValue) → vulnerabilities_in findings ≡ filter_map one (map pair_of findings)
of-pairs [] = refl
of-pairs (f ∷ fs) = ap (cons_option (unless_warning f.kind f.advisory f.«package»)) (of-pairs fs)

-- ---- those that are not ignored

step : (ids : List IdValue) (f : Found) (fs : List Found) (k : Option WarningKind) → f.kind ≡ k → filter_map one (counted ids fs) ≡ without ids (filter_map one fs)
    → filter_map one (counted ids (f ∷ fs)) ≡ without ids (filter_map one (f ∷ fs))
step ids f fs (Some k) is so = elim (cases_Bool (is_among ids f.advisory.metadata.id)) [
  | inl ignored ↦ rw (ignored, is) so
  | inr other ↦ rw (other, is) so
]
step ids f fs None is so = elim (cases_Bool (is_among ids f.advisory.metadata.id)) [
  | inl ignored ↦ rw (ignored, is, ignored) so
  | inr other ↦ rw (other, is, other) (ap (λ vs. vulnerability_of f.advisory f.«package» ∷ vs) so)
]

not-ignored : (ids : List IdValue) (fs : List Found) → filter_map one (counted ids fs) ≡ without ids (filter_map one fs)
not-ignored ids [] = refl
not-ignored ids (f ∷ fs) = step ids f fs f.kind refl (not-ignored ids fs)

-- ---- those of one package

abbrev as_pair : PackageValue → Advisory → Pair
as_pair p a = record { of = p; by = a }

of-vulnerable : (placed : ℕ × PackageValue) (advisories : List Advisory) → filter_map one (map (as_vulnerable placed) advisories) ≡ map as_vulnerability (map (as_pair placed.1) advisories)
of-vulnerable placed [] = refl
of-vulnerable placed (a ∷ rest) = ap (λ vs. vulnerability_of a placed.1 ∷ vs) (of-vulnerable placed rest)

as-warning : (k : Option WarningKind) (placed : ℕ × PackageValue) (a : Advisory) (fs : List Found) → filter_map one fs ≡ []
    → filter_map one (cons_option (option_map (λ w. record { kind = Some w; advisory = a; «package» = placed.1; place = placed.0 }) k) fs) ≡ []
as-warning None placed a fs so = so
as-warning (Some k) placed a fs so = so

of-wanted : (s : Settings) (placed : ℕ × PackageValue) (advisories : List Advisory) → filter_map one (filter_map (as_wanted s placed) advisories) ≡ []
of-wanted s placed [] = refl
of-wanted s placed (a ∷ rest) =
    as-warning (option_and_then (wanted_kind s) a.metadata.informational) placed a (filter_map (as_wanted s placed) rest) (of-wanted s placed rest)

of-package : (advisories : List Advisory) (s : Settings) (placed : ℕ × PackageValue)
    → filter_map one (found_at advisories s placed) ≡ map as_vulnerability (pairs_of advisories (query_of s) placed.1)
unfolding vulnerable_at wanted_at
of-package advisories s placed =
    filter_map-append one (vulnerable_at advisories s placed) (wanted_at advisories s placed)
    ∙ (ap (λ vs. vs ++ filter_map one (wanted_at advisories s placed)) (of-vulnerable placed (filter (finds (query_of s) placed.1) advisories))
    ∙ (ap (λ vs. map as_vulnerability (pairs_of advisories (query_of s) placed.1) ++ vs) (of-wanted s placed (filter (finds (informational_query s) placed.1) advisories)) ∙ append-nil _))

-- ---- all of them

of-packages : (advisories : List Advisory) (s : Settings) (n : ℕ) (packages : List PackageValue)
    → filter_map one (flat_map (found_at advisories s) (enumerate_from n packages)) ≡ map as_vulnerability (flat_map (pairs_of advisories (query_of s)) packages)
of-packages advisories s n [] = refl
of-packages advisories s n (p ∷ ps) =
    filter_map-append one (found_at advisories s (n, p)) (flat_map (found_at advisories s) (enumerate_from (n + 1) ps))
    ∙ (ap (λ vs. vs ++ filter_map one (flat_map (found_at advisories s) (enumerate_from (n + 1) ps))) (of-package advisories s (n, p))
    ∙ (ap (λ vs. map as_vulnerability (pairs_of advisories (query_of s) p) ++ vs) (of-packages advisories s (n + 1) ps)
    ∙ sym (map-append as_vulnerability (pairs_of advisories (query_of s) p) (flat_map (pairs_of advisories (query_of s)) ps))))

all-found : (advisories : List Advisory) (packages : List PackageValue) (s : Settings)
    → filter_map one (found advisories packages s) ≡ report.found advisories packages (query_of s)
unfolding found pairs
all-found advisories packages s = of-packages advisories s 0 packages

pub as-reported : (s : SubjectValue) (findings : List FindingValue) → AreFindings s findings
    → vulnerabilities_in findings ≡ vulnerabilities s.advisories s.packages s.settings
as-reported s findings so =
    of-pairs findings ∙ (ap (filter_map one) so.pairs
    ∙ (not-ignored s.settings.ignore (found s.advisories s.packages s.settings) ∙ ap (without s.settings.ignore) (all-found s.advisories s.packages s.settings)))
