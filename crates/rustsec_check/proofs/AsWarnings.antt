-- The findings that are warnings are those of a report.
use Rattle.std.proofs.Common.{◌≡◌, ◌∙◌, ◌+◌, ◌++◌, ℕ, Bool, true, false, List, [], ◌∷◌, Option, Some, None, ap, inl, inr, map, refl, sym}
use Rattle.std.specs.List.{cons_option, enumerate_from, filter, filter_map, flat_map}
use Rattle.std.specs.Option.{option_eq, option_map}
use Rattle.std.specs.Prelude.{if◌then◌else◌, not, option_and_then}
use Rattle.std.proofs.lemmas.Bool.{cases_Bool}
use Rattle.std.proofs.lemmas.List.{map-append}
use Rattle.std.proofs.lemmas.List.Elements.{filter-append, filter_map-append}
use denote.Enum.Bare.{sameb}
use Rattle.rustsec_lock.specs.Package.{PackageValue}
use Rattle.rustsec_texts.specs.Ids.{IdValue}
use Rattle.rustsec_texts.specs.WarningKinds.{warning_kinds}
use Rattle.rustsec_texts.specs.contracts.warning_kind.WarningKind.{the_type as warning_kind}
use Rattle.rustsec_texts.specs.declared.warning_kind.WarningKind.{WarningKind}
use Rattle.rustsec_advisory.specs.declared.advisory.Advisory.{Advisory}
use Rattle.rustsec_database.specs.Pairs.{Pair, as_vulnerability, finds, pairs, pairs_of, vulnerability_of}
use Rattle.rustsec_database.specs.declared.vulnerability.Vulnerability.{Vulnerability}
use Rattle.rustsec_report.specs.Report.{as_warning, gives, informational_query, is_among, present, wanted_kind, warnings, warnings_by_kind, warnings_of_kind, without}
use Rattle.rustsec_report.specs.Report as report
use Rattle.rustsec_report.specs.declared.settings.Settings.{Settings}
use Rattle.rustsec_report.specs.declared.warning.Warning.{Warning}
use Rattle.rustsec_check.specs.AsReport.{if_warning, warnings_among, warnings_in}
use Rattle.rustsec_check.specs.Findings.{AreFindings, pair_of}
use Rattle.rustsec_check.specs.Pairs.{as_vulnerable, as_wanted, counted, found, found_at, is_ignored, vulnerable_at, wanted_at}
use Rattle.rustsec_check.specs.Values.{FindingValue, Found, SubjectValue}

-- a pair as a warning of a kind, if it is its kind
abbrev of_kind : WarningKind → Found → Option Warning
of_kind k f = if_warning k f.kind f.advisory f.«package»

-- the warnings of a kind among the pairs that are not ignored
abbrev among : WarningKind → List IdValue → List Found → List Warning
among k ids fs = filter_map (of_kind k) (counted ids fs)

-- the warnings of a kind that a report makes of the pairs that are not ignored
abbrev reported : Settings → WarningKind → List IdValue → List Vulnerability → List Warning
reported s k ids vs = map (as_warning k) (filter (gives s k) (without ids vs))

of-pairs : (k : WarningKind) (findings : List FindingValue) → warnings_in findings k ≡ filter_map (of_kind k) (map pair_of findings)
of-pairs k [] = refl
of-pairs k (f ∷ fs) = ap (cons_option (if_warning k f.kind f.advisory f.«package»)) (of-pairs k fs)

-- ---- those of one package

no-vulnerability : (k : WarningKind) (ids : List IdValue) (placed : ℕ × PackageValue) (advisories : List Advisory)
    → among k ids (map (as_vulnerable placed) advisories) ≡ []
no-vulnerability k ids placed [] = refl
no-vulnerability k ids placed (a ∷ rest) = elim (cases_Bool (is_among ids a.metadata.id)) [
  | inl ignored ↦ rw ignored (no-vulnerability k ids placed rest)
  | inr other ↦ rw other (no-vulnerability k ids placed rest)
]

abbrev as_pair : PackageValue → Advisory → Pair
as_pair p a = record { of = p; by = a }

-- a pair whose advisory gives warnings of this kind
abbrev with_kind : ℕ × PackageValue → Advisory → WarningKind → Found
with_kind placed a j = record { kind = Some j; advisory = a; «package» = placed.1; place = placed.0 }

-- a warning is of a kind exactly if its pair is counted for it
with-test : (s : Settings) (k : WarningKind) (ids : List IdValue) (placed : ℕ × PackageValue) (a : Advisory) (j : WarningKind) (test : Bool)
    (fs : List Found) (vs : List Vulnerability) → among k ids fs ≡ reported s k ids vs
    → cons_option (if test then Some (as_warning k (vulnerability_of a placed.1)) else None) (among k ids fs)
    ≡ map (as_warning k) (if test then vulnerability_of a placed.1 ∷ filter (gives s k) (without ids vs) else filter (gives s k) (without ids vs))
with-test s k ids placed a j true fs vs so = ap (λ ws. as_warning k (vulnerability_of a placed.1) ∷ ws) so
with-test s k ids placed a j false fs vs so = so

-- the kind of a pair's warnings, if any, is that of its advisory
one-more : (s : Settings) (k : WarningKind) (ids : List IdValue) (placed : ℕ × PackageValue) (a : Advisory) (w : Option WarningKind)
    (fs : List Found) (vs : List Vulnerability) → option_and_then (wanted_kind s) a.metadata.informational ≡ w → among k ids fs ≡ reported s k ids vs
    → among k ids (cons_option (option_map (with_kind placed a) w) fs) ≡ reported s k ids (vulnerability_of a placed.1 ∷ vs)
one-more s k ids placed a None fs vs is so = elim (cases_Bool (is_among ids a.metadata.id)) [
  | inl ignored ↦ rw ignored so
  | inr other ↦ rw (other, is) so
]
one-more s k ids placed a (Some j) fs vs is so = elim (cases_Bool (is_among ids a.metadata.id)) [
  | inl ignored ↦ rw ignored so
  | inr other ↦ rw (other, is) (with-test s k ids placed a j (option_eq (sameb warning_kind) (Some j) (Some k)) fs vs so)
]

of-wanted : (s : Settings) (k : WarningKind) (ids : List IdValue) (placed : ℕ × PackageValue) (advisories : List Advisory)
    → among k ids (filter_map (as_wanted s placed) advisories) ≡ reported s k ids (map as_vulnerability (map (as_pair placed.1) advisories))
of-wanted s k ids placed [] = refl
of-wanted s k ids placed (a ∷ rest) =
    one-more s k ids placed a (option_and_then (wanted_kind s) a.metadata.informational) (filter_map (as_wanted s placed) rest)
    (map as_vulnerability (map (as_pair placed.1) rest)) refl (of-wanted s k ids placed rest)

among-append : (k : WarningKind) (ids : List IdValue) (fs gs : List Found) → among k ids (fs ++ gs) ≡ among k ids fs ++ among k ids gs
among-append k ids fs gs =
    ap (filter_map (of_kind k)) (filter-append (λ f. not (is_ignored ids f)) fs gs) ∙ filter_map-append (of_kind k) (counted ids fs) (counted ids gs)

of-package : (advisories : List Advisory) (s : Settings) (k : WarningKind) (ids : List IdValue) (placed : ℕ × PackageValue)
    → among k ids (found_at advisories s placed) ≡ reported s k ids (map as_vulnerability (pairs_of advisories (informational_query s) placed.1))
unfolding vulnerable_at wanted_at
of-package advisories s k ids placed =
    among-append k ids (vulnerable_at advisories s placed) (wanted_at advisories s placed)
    ∙ (ap (λ ws. ws ++ among k ids (wanted_at advisories s placed)) (no-vulnerability k ids placed (filter (finds (report.query_of s) placed.1) advisories))
    ∙ of-wanted s k ids placed (filter (finds (informational_query s) placed.1) advisories))

-- ---- all of them

reported-append : (s : Settings) (k : WarningKind) (ids : List IdValue) (xs ys : List Pair)
    → reported s k ids (map as_vulnerability (xs ++ ys)) ≡ reported s k ids (map as_vulnerability xs) ++ reported s k ids (map as_vulnerability ys)
reported-append s k ids xs ys =
    let vs = map as_vulnerability xs in
    let us = map as_vulnerability ys in
    ap (reported s k ids) (map-append as_vulnerability xs ys)
    ∙ (ap (λ l. map (as_warning k) (filter (gives s k) l)) (filter-append (λ v. not (is_among ids v.advisory.id)) vs us)
    ∙ (ap (map (as_warning k)) (filter-append (gives s k) (without ids vs) (without ids us))
    ∙ map-append (as_warning k) (filter (gives s k) (without ids vs)) (filter (gives s k) (without ids us))))

of-packages : (advisories : List Advisory) (s : Settings) (k : WarningKind) (ids : List IdValue) (n : ℕ) (packages : List PackageValue)
    → among k ids (flat_map (found_at advisories s) (enumerate_from n packages))
    ≡ reported s k ids (map as_vulnerability (flat_map (pairs_of advisories (informational_query s)) packages))
of-packages advisories s k ids n [] = refl
of-packages advisories s k ids n (p ∷ ps) =
    among-append k ids (found_at advisories s (n, p)) (flat_map (found_at advisories s) (enumerate_from (n + 1) ps))
    ∙ (ap (λ ws. ws ++ among k ids (flat_map (found_at advisories s) (enumerate_from (n + 1) ps))) (of-package advisories s k ids (n, p))
    ∙ (ap (λ ws. reported s k ids (map as_vulnerability (pairs_of advisories (informational_query s) p)) ++ ws) (of-packages advisories s k ids (n + 1) ps)
    ∙ sym (reported-append s k ids (pairs_of advisories (informational_query s) p) (flat_map (pairs_of advisories (informational_query s)) ps))))

of-all : (advisories : List Advisory) (packages : List PackageValue) (s : Settings) (k : WarningKind)
    → among k s.ignore (found advisories packages s) ≡ warnings_of_kind s (without s.ignore (report.found advisories packages (informational_query s))) k
unfolding found pairs
of-all advisories packages s k = of-packages advisories s k s.ignore 0 packages

-- each kind with its warnings
abbrev by_kind : (WarningKind → List Warning) → List WarningKind → List (WarningKind × List Warning)
by_kind f ks = map {B = WarningKind × List Warning} (λ k. (k, f k)) ks

-- one more kind with its warnings
abbrev add : WarningKind → List Warning → List (WarningKind × List Warning) → List (WarningKind × List Warning)
add k ws rest = (k, ws) ∷ rest

each-kind : (f g : WarningKind → List Warning) → ((k : WarningKind) → f k ≡ g k) → (ks : List WarningKind) → by_kind f ks ≡ by_kind g ks
each-kind f g same [] = refl
each-kind f g same (k ∷ ks) = ap (λ ws. add k ws (by_kind f ks)) (same k) ∙ ap (add k (g k)) (each-kind f g same ks)

pub as-warned : (s : SubjectValue) (findings : List FindingValue) → AreFindings s findings
    → warnings_among findings ≡ warnings s.advisories s.packages s.settings
unfolding warnings_by_kind
as-warned s findings so =
    let vs = without s.settings.ignore (report.found s.advisories s.packages (informational_query s.settings)) in
    ap present (each-kind (warnings_in findings) (warnings_of_kind s.settings vs)
    (λ k. of-pairs k findings ∙ (ap (filter_map (of_kind k)) so.pairs ∙ of-all s.advisories s.packages s.settings k)) warning_kinds)
