-- A report contains no withdrawn and no ignored advisory; the advisories of its vulnerabilities are not
-- informational, and those of its warnings are.
use Rattle.std.proofs.Common.{◌≡◌, Bool, true, false, not, List, [], ◌∷◌, map, Option, Some, None, option_and_then, refl, ap, subst, sym, is_some, if◌then◌else◌}
use Rattle.std.proofs.lemmas.List.Elements.{All-nil, All-append, All-filter, All-map, All-weaker, filter_passes}
use Rattle.std.specs.Bool.{beq}
use Rattle.std.specs.Cmp.{first_so, second_so}
use Rattle.std.specs.List.{All, filter}
use Rattle.std.specs.Option.{option_eq}
use Rattle.std.proofs.lemmas.Bool.{not-true}
use denote.Enum.Bare.{same_true, sameb}
use Rattle.rustsec_lock.specs.Package.{PackageValue}
use Rattle.rustsec_texts.specs.Informational.{kind_of_warnings}
use Rattle.rustsec_texts.specs.WarningKinds.{warning_kinds}
use Rattle.rustsec_texts.specs.contracts.warning_kind.WarningKind.{the_type as kind_type}
use Rattle.rustsec_texts.specs.declared.informational.Informational.{Informational}
use Rattle.rustsec_texts.specs.declared.warning_kind.WarningKind.{WarningKind}
use Rattle.rustsec_advisory.specs.declared.advisory.Advisory.{Advisory}
use Rattle.rustsec_database.specs.Pairs.{Pair, as_vulnerability, finds, is_audited, pairs, pairs_of}
use Rattle.rustsec_database.specs.Query.{Asked, of_package}
use Rattle.rustsec_database.specs.Selects.{as_informational, as_withdrawn, selects}
use Rattle.rustsec_database.specs.declared.vulnerability.Vulnerability.{Vulnerability}
use Rattle.rustsec_report.specs.ReportedAdvisories.{ListsWhatIsInForce, IsVulnerability, IsWarning}
use Rattle.rustsec_report.specs.Report.{as_warning, found, gives, has_some, informational_query, is_among, is_wanted, query_of, report_of, vulnerabilities, wanted_kind, warnings, warnings_by_kind, warnings_of_kind, without}
use Rattle.rustsec_report.specs.declared.report.Report.{Report}
use Rattle.rustsec_report.specs.declared.settings.Settings.{Settings}
use Rattle.rustsec_report.specs.declared.warning.Warning.{Warning}

-- the last two tests of a query
last_tests : (q : Asked) (a : Advisory) → selects q a ≡ true → (as_withdrawn q a ≡ true) × (as_informational q a ≡ true)
unfolding selects
last_tests q a h = (second_so _ (as_withdrawn q a) (first_so _ (as_informational q a) h), second_so _ (as_informational q a) h)

-- what holds for each package and advisory that a query selects holds for all pairs
module _ (P : Pair → Type 0) (advisories : List Advisory) (q : Asked)
    (each : (p : PackageValue) (a : Advisory) → selects (of_package q p) a ≡ true → P (record { of = p; by = a })) where
  pairs_of-all : (p : PackageValue) → All P (pairs_of advisories q p)
  pairs_of-all p =
      All-map P (λ (a : Advisory). record { of = p; by = a }) (filter (finds q p) advisories)
      (All-weaker (λ (a : Advisory). finds q p a ≡ true) (λ (a : Advisory). P (record { of = p; by = a }))
      (λ a h. each p a (second_so (is_audited p) (selects (of_package q p) a) h)) (filter (finds q p) advisories) (filter_passes (finds q p) advisories))

  pub pairs-all : (packages : List PackageValue) → All P (pairs advisories packages q)
  unfolding pairs
  pairs-all [] = All-nil P
  pairs-all (p ∷ ps) = All-append P (pairs_of advisories q p) _ (pairs_of-all p) (pairs-all ps)

none_there : {A : Type 0} (o : Option A) → beq false (is_some o) ≡ true → o ≡ None
none_there None h = refl
none_there (Some x) h = cc h

-- matches, without ignored advisories
module _ (s : Settings) (P : Vulnerability → Type 0) (vs : List Vulnerability) (all : All P vs) where
  counted : Vulnerability → Bool
  counted v = not (is_among s.ignore v.advisory.id)

  pub without-all : All (λ (v : Vulnerability). P v × (is_among s.ignore v.advisory.id ≡ false)) (without s.ignore vs)
  unfolding counted
  without-all =
      let kept = All-filter counted P vs all in
      let passed = filter_passes counted vs in
      λ k d l. (kept k d l, not-true _ (passed k d l))

-- ---- vulnerabilities

vulnerabilities-all : (advisories : List Advisory) (packages : List PackageValue) (s : Settings)
    → All (IsVulnerability s) (vulnerabilities advisories packages s)
vulnerabilities-all advisories packages s =
    let Q : Vulnerability → Type 0 = λ v. (v.advisory.withdrawn ≡ None) × (v.advisory.informational ≡ None) in
    let each : (p : PackageValue) (a : Advisory) → selects (of_package (query_of s) p) a ≡ true → Q (as_vulnerability (record { of = p; by = a })) =
    λ p a h. let t = last_tests (of_package (query_of s) p) a h in (none_there a.metadata.withdrawn t.0, none_there a.metadata.informational t.1) in
    let all : All Q (found advisories packages (query_of s)) =
    All-map Q as_vulnerability (pairs advisories packages (query_of s)) (pairs-all (λ (pair : Pair). Q (as_vulnerability pair)) advisories (query_of s) each packages) in
    All-weaker (λ (v : Vulnerability). Q v × (is_among s.ignore v.advisory.id ≡ false)) (IsVulnerability s)
    (λ v h. record { in_force = record { not_withdrawn = h.0.0; counts = h.1 }; not_informational = h.0.1 }) _ (without-all s Q (found advisories packages (query_of s)) all)

-- ---- warnings

wanted : (b : Bool) (o : Option WarningKind) (k : WarningKind) → option_eq (sameb kind_type) (if b then o else None) (Some k) ≡ true → o ≡ Some k
wanted false o k h = cc h
wanted true None k h = cc h
wanted true (Some x) k h = ap Some (same_true kind_type tt x k h)

giving : (s : Settings) (k : WarningKind) (o : Option Informational) → option_eq (sameb kind_type) (option_and_then (wanted_kind s) o) (Some k) ≡ true
    → (i : Informational) × (o ≡ Some i) × (kind_of_warnings i ≡ Some k)
giving s k None h = cc h
giving s k (Some i) h = (i, refl, wanted (is_wanted s i) (kind_of_warnings i) k h)

-- an advisory that is neither withdrawn nor ignored
abbrev Counts : Settings → Vulnerability → Type 0
Counts s v = (v.advisory.withdrawn ≡ None) × (is_among s.ignore v.advisory.id ≡ false)

warning_of : (s : Settings) (k : WarningKind) (v : Vulnerability) → Counts s v → gives s k v ≡ true → IsWarning s k (as_warning k v)
warning_of s k v c h =
    let g = giving s k v.advisory.informational h in
    record {
      advisory = v.advisory;
      by = refl;
      in_force = record { not_withdrawn = c.0; counts = c.1 };
      informational = g.0;
      informs = g.1;
      gives = g.2;
      has_kind = refl;
    }

of_kind-all : (s : Settings) (vs : List Vulnerability) → All (Counts s) vs → (k : WarningKind) → All (IsWarning s k) (warnings_of_kind s vs k)
of_kind-all s vs all k =
    let kept = All-filter (gives s k) (Counts s) vs all in
    let passed = filter_passes (gives s k) vs in
    let both : All (λ (v : Vulnerability). Counts s v × (gives s k v ≡ true)) (filter (gives s k) vs) = λ j d l. (kept j d l, passed j d l) in
    All-map (IsWarning s k) (as_warning k) (filter (gives s k) vs)
    (All-weaker (λ (v : Vulnerability). Counts s v × (gives s k v ≡ true)) (λ (v : Vulnerability). IsWarning s k (as_warning k v))
    (λ v h. warning_of s k v h.0 h.1) (filter (gives s k) vs) both)

by_kind-all : (s : Settings) (vs : List Vulnerability) → All (Counts s) vs → All (λ (e : WarningKind × List Warning). All (IsWarning s e.0) e.1) (warnings_by_kind s vs)
unfolding warnings_by_kind
by_kind-all s vs all =
    let P : WarningKind × List Warning → Type 0 = λ e. All (IsWarning s e.0) e.1 in
    let rows : WarningKind → WarningKind × List Warning = λ k. (k, warnings_of_kind s vs k) in
    All-filter (λ (e : WarningKind × List Warning). has_some e.1) P (map rows warning_kinds)
    (All-map P rows warning_kinds (λ j d l. of_kind-all s vs all _))

warnings-all : (advisories : List Advisory) (packages : List PackageValue) (s : Settings)
    → All (λ (e : WarningKind × List Warning). All (IsWarning s e.0) e.1) (warnings advisories packages s)
warnings-all advisories packages s =
    let Q : Vulnerability → Type 0 = λ v. v.advisory.withdrawn ≡ None in
    let each : (p : PackageValue) (a : Advisory) → selects (of_package (informational_query s) p) a ≡ true → Q (as_vulnerability (record { of = p; by = a })) =
    λ p a h. none_there a.metadata.withdrawn (last_tests (of_package (informational_query s) p) a h).0 in
    let all : All Q (found advisories packages (informational_query s)) =
    All-map Q as_vulnerability (pairs advisories packages (informational_query s)) (pairs-all (λ (pair : Pair). Q (as_vulnerability pair)) advisories (informational_query s) each packages) in
    by_kind-all s _ (without-all s Q (found advisories packages (informational_query s)) all)

pub report-held : (advisories : List Advisory) (packages : List PackageValue) (s : Settings) → ListsWhatIsInForce (report_of advisories packages s)
report-held advisories packages s = record { vulnerabilities = vulnerabilities-all advisories packages s; warnings = warnings-all advisories packages s }

-- likewise for a report that is this one
pub held-of : (r : Report) (advisories : List Advisory) (packages : List PackageValue) (s : Settings) → r ≡ report_of advisories packages s → ListsWhatIsInForce r
held-of r advisories packages s e = subst ListsWhatIsInForce (sym e) (report-held advisories packages s)
