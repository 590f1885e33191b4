-- Listing warnings kind by kind gives each kind with its warnings, in the order of kinds; so does a map of that list.
use Rattle.std.proofs.Common.{◌≡◌, ◌≤◌, ◌∙◌, ◌++◌, ℕ, List, [], ◌∷◌, ap, drop, length, refl, sym}
use Rattle.std.proofs.lemmas.List.{drop_all}
use Rattle.rustsec_texts.specs.WarningKinds.{warning_kinds}
use Rattle.rustsec_texts.specs.declared.warning_kind.WarningKind.{WarningKind}
use Rattle.rustsec_texts.specs.declared.warning_kind.WarningKind.TheVariants as kind
use Rattle.rustsec_report.specs.Kinds.{with_kinds, with_map_of_kinds}
use Rattle.rustsec_lock.specs.Package.{PackageValue}
use Rattle.rustsec_advisory.specs.declared.advisory.Advisory.{Advisory}
use Rattle.rustsec_report.specs.Report.{found, informational_query, present, report_of, warnings, warnings_by_kind, warnings_of_kind, without}
use Rattle.rustsec_report.specs.declared.report.Report.{Report}
use Rattle.rustsec_report.specs.declared.settings.Settings.{Settings}
use Rattle.rustsec_report.specs.declared.warning.Warning.{Warning}
use Rattle.rustsec_database.specs.declared.vulnerability.Vulnerability.{Vulnerability}

one : WarningKind → List Warning → List (WarningKind × List Warning)
one k ws = present ((k, ws) ∷ [])

-- a list with the warnings of each of these kinds in turn
abbrev pub listed : (WarningKind → List Warning) → List (WarningKind × List Warning) → List WarningKind → List (WarningKind × List Warning)
listed f es [] = es
listed f es (k ∷ ks) = listed f (es ++ present ((k, f k) ∷ [])) ks

each-listed : (a b c d : List Warning) → ((([] ++ one kind.Notice a) ++ one kind.Unmaintained b) ++ one kind.Unsound c) ++ one kind.Yanked d
    ≡ present ((kind.Notice, a) ∷ (kind.Unmaintained, b) ∷ (kind.Unsound, c) ∷ (kind.Yanked, d) ∷ [])
unfolding one
each-listed [] [] [] [] = refl
each-listed [] [] [] (z ∷ d) = refl
each-listed [] [] (y ∷ c) [] = refl
each-listed [] [] (y ∷ c) (z ∷ d) = refl
each-listed [] (x ∷ b) [] [] = refl
each-listed [] (x ∷ b) [] (z ∷ d) = refl
each-listed [] (x ∷ b) (y ∷ c) [] = refl
each-listed [] (x ∷ b) (y ∷ c) (z ∷ d) = refl
each-listed (w ∷ a) [] [] [] = refl
each-listed (w ∷ a) [] [] (z ∷ d) = refl
each-listed (w ∷ a) [] (y ∷ c) [] = refl
each-listed (w ∷ a) [] (y ∷ c) (z ∷ d) = refl
each-listed (w ∷ a) (x ∷ b) [] [] = refl
each-listed (w ∷ a) (x ∷ b) [] (z ∷ d) = refl
each-listed (w ∷ a) (x ∷ b) (y ∷ c) [] = refl
each-listed (w ∷ a) (x ∷ b) (y ∷ c) (z ∷ d) = refl

all_listed : (s : Settings) (vs : List Vulnerability) → listed (warnings_of_kind s vs) [] warning_kinds ≡ warnings_by_kind s vs
unfolding warnings_by_kind one
all_listed s vs = each-listed (warnings_of_kind s vs kind.Notice) (warnings_of_kind s vs kind.Unmaintained) (warnings_of_kind s vs kind.Unsound) (warnings_of_kind s vs kind.Yanked)

-- when no kind is left
pub finished_list : (s : Settings) (vs : List Vulnerability) (es : List (WarningKind × List Warning)) (ks : List WarningKind) (i : ℕ) → length ks ≤ i → ks ≡ warning_kinds
    → listed (warnings_of_kind s vs) es (drop i ks) ≡ listed (warnings_of_kind s vs) [] ks → es ≡ warnings_by_kind s vs
finished_list s vs es ks i past is h =
    ap (listed (warnings_of_kind s vs) es) (sym (drop_all i ks past)) ∙ (h ∙ (ap (listed (warnings_of_kind s vs) []) is ∙ all_listed s vs))

-- ---- a map of the list

each-in-order : (a b c d : List Warning) → with_kinds [] (present ((kind.Notice, a) ∷ (kind.Unmaintained, b) ∷ (kind.Unsound, c) ∷ (kind.Yanked, d) ∷ []))
    ≡ present ((kind.Notice, a) ∷ (kind.Unmaintained, b) ∷ (kind.Unsound, c) ∷ (kind.Yanked, d) ∷ [])
each-in-order [] [] [] [] = refl
each-in-order [] [] [] (z ∷ d) = refl
each-in-order [] [] (y ∷ c) [] = refl
each-in-order [] [] (y ∷ c) (z ∷ d) = refl
each-in-order [] (x ∷ b) [] [] = refl
each-in-order [] (x ∷ b) [] (z ∷ d) = refl
each-in-order [] (x ∷ b) (y ∷ c) [] = refl
each-in-order [] (x ∷ b) (y ∷ c) (z ∷ d) = refl
each-in-order (w ∷ a) [] [] [] = refl
each-in-order (w ∷ a) [] [] (z ∷ d) = refl
each-in-order (w ∷ a) [] (y ∷ c) [] = refl
each-in-order (w ∷ a) [] (y ∷ c) (z ∷ d) = refl
each-in-order (w ∷ a) (x ∷ b) [] [] = refl
each-in-order (w ∷ a) (x ∷ b) [] (z ∷ d) = refl
each-in-order (w ∷ a) (x ∷ b) (y ∷ c) [] = refl
each-in-order (w ∷ a) (x ∷ b) (y ∷ c) (z ∷ d) = refl

pub in_order : (s : Settings) (vs : List Vulnerability) → with_kinds [] (warnings_by_kind s vs) ≡ warnings_by_kind s vs
unfolding warnings_by_kind
in_order s vs = each-in-order (warnings_of_kind s vs kind.Notice) (warnings_of_kind s vs kind.Unmaintained) (warnings_of_kind s vs kind.Unsound) (warnings_of_kind s vs kind.Yanked)

-- a map of the warnings of a report that was generated has them as they are
pub generated : (r copy : Report) (advisories : List Advisory) (packages : List PackageValue) (s : Settings)
    → r ≡ report_of advisories packages s → copy ≡ with_map_of_kinds r → copy ≡ report_of advisories packages s
generated r copy advisories packages s is copied =
    copied ∙ (ap with_map_of_kinds is ∙ ap (λ ws. record {
      lockfile = (report_of advisories packages s).lockfile;
      settings = s;
      vulnerabilities = (report_of advisories packages s).vulnerabilities;
      warnings = ws;
    }) (in_order s (without s.ignore (found advisories packages (informational_query s)))))

-- a map of the warnings that settings ask for has them as they are
pub copied : (advisories : List Advisory) (packages : List PackageValue) (s : Settings) (ws copy : List (WarningKind × List Warning))
    → ws ≡ warnings advisories packages s → copy ≡ with_kinds [] ws → copy ≡ warnings advisories packages s
copied advisories packages s ws copy is made =
    made ∙ (ap (with_kinds []) is ∙ in_order s (without s.ignore (found advisories packages (informational_query s))))
