-- A check by the advisories that a test passes, among them each that bears on a package of the lockfile, is the check by all
-- of them, once its ignored IDs go by the IDs of all.
use Rattle.std.proofs.Common.{◌≡◌, ◌∙◌, ◌&&◌, ◌+◌, ◌-◌, ◌++◌, ℕ, Bool, true, false, List, [], ◌∷◌, ap, inl, inr, length, map, nat_eq, not, refl, subst, sym}
use Rattle.std.proofs.lemmas.Bool.{cases_Bool, or_left, or_right}
use Rattle.std.specs.Cmp.{first_so, second_so}
use Rattle.std.specs.Cmp.Lexicographic.{bytes_decides, pointwise}
use Rattle.std.specs.List.{All, enumerate_from, filter, filter_map, flat_map, list_any}
use Rattle.std.proofs.lemmas.List.Elements.{All-cons, All-filter, All-head, All-nil, All-same, All-tail, All-weaker, filter_agree}
use Rattle.rustsec_versions.specs.acceptance.Lists.{affected}
use Rattle.rustsec_versions.specs.ranges.Ranges.{is_from, is_until}
use Rattle.rustsec_lock.specs.Package.{PackageValue}
use Rattle.rustsec_texts.specs.IdOrder.{id_eq}
use Rattle.rustsec_texts.specs.Ids.{IdValue}
use Rattle.rustsec_advisory.specs.declared.advisory.Advisory.{Advisory}
use Rattle.rustsec_database.specs.Pairs.{finds, is_audited}
use Rattle.rustsec_database.specs.Query.{Asked, of_package}
use Rattle.rustsec_database.specs.Selects.{as_informational, as_withdrawn, has_name, has_source, has_version, in_collection, is_severe, of_year, on_arch, on_os, selects}
use Rattle.rustsec_database.proofs.Places.{narrow}
use Rattle.rustsec_database.specs.Kept.{IsKept, KeptValue, PassesBearing, bears_on, bears_on_any, is_about}
use Rattle.rustsec_database.specs.Spans.{span_of}
use Rattle.rustsec_database.proofs.Spans.{in-span, past-span}
use Rattle.rustsec_database.proofs.Tables.{selected-affecting}
use Rattle.rustsec_database.specs.Loaded.{has_id}
use Rattle.rustsec_report.specs.Report.{informational_query, query_of}
use Rattle.rustsec_report.specs.declared.settings.Settings.{Settings}
use Rattle.rustsec_check.specs.Checks.{IsCheckOf, any_severity, is_known, is_unused, is_unused_of}
use Rattle.rustsec_check.specs.Findings.{AreFindings, IsFinding, pair_of}
use Rattle.rustsec_check.specs.Pairs.{as_ignored, as_vulnerable, as_wanted, counted, found, found_at, is_ignored, left_out, vulnerable_at, wanted_at}
use Rattle.rustsec_check.specs.Updates.{IsUpdateBy, UpdateValue, about, counting}
use Rattle.rustsec_check.specs.Values.{CheckValue, FindingValue, Found, IgnoredValue, SubjectValue, YankedValue}
use Rattle.rustsec_check.specs.Yanked.{AreYanked, IsYanked}
use Rattle.rustsec_check.proofs.FoundPackages.{found-of}
use Rattle.rustsec_check.proofs.Settled.{IsSettled, IsSettledElse, each-kept, swapped, update-kept}
use Rattle.rustsec_check.proofs.Sweep.{both}

-- ---- one advisory and one package

-- an advisory that a query selects has the asked name
selected-named : (q : Asked) (a : Advisory) → selects q a ≡ true → has_name q a ≡ true
unfolding selects
selected-named q a h =
    second_so (in_collection q a) (has_name q a) (first_so _ (has_version q a) (first_so _ (has_source q a) (first_so _ (is_severe q a)
    (first_so _ (on_arch q a) (first_so _ (on_os q a) (first_so _ (of_year q a) (first_so _ (as_withdrawn q a) (first_so _ (as_informational q a) h))))))))

named-about : (a : Advisory) (p : PackageValue) → pointwise nat_eq p.name a.metadata.«package» ≡ true → is_about a p ≡ true
named-about a p h = (bytes_decides a.metadata.«package» p.name).1 (sym ((bytes_decides p.name a.metadata.«package»).0 h))

-- an advisory that is about a package and affects its version bears on it
affecting-bears : (a : Advisory) (p : PackageValue) → is_about a p ≡ true → affected a.versions p.version ≡ true → bears_on a p ≡ true
affecting-bears a p about affects =
    both _ _ about (second_so (is_from (span_of a.versions).introduced p.version) (is_until (span_of a.versions).fixed p.version) (in-span a.versions p.version affects))

-- so does one that a query finds for it
found-bears : (q : Asked) (p : PackageValue) (a : Advisory) → finds q p a ≡ true → bears_on a p ≡ true
found-bears q p a h =
    let asked = of_package q p in
    let selected = second_so (is_audited p) (selects asked a) h in
    affecting-bears a p (named-about a p (selected-named asked a selected)) (selected-affecting asked asked.package_version a refl selected)

-- one that counts for a package is about it
counting-about : (p : PackageValue) (a : Advisory) → selects (about p) a ≡ true → is_about a p ≡ true
counting-about p a h = named-about a p (selected-named (about p) a h)

-- if it does not bear on it, it affects no version from the locked one on
counting-settled : (p : PackageValue) (a : Advisory) → selects (about p) a ≡ true → bears_on a p ≡ false → IsSettled p.version a
counting-settled p a h is w at =
    let not_till : is_until (span_of a.versions).fixed p.version ≡ false =
    ap (λ b. b && is_until (span_of a.versions).fixed p.version) (sym (counting-about p a h)) ∙ is in
    past-span a.versions p.version w not_till at

-- ---- one package

-- a test passes the advisories that bear on a package
abbrev pub Passes : (Advisory → Bool) → PackageValue → Type 0
Passes test p = (a : Advisory) → bears_on a p ≡ true → test a ≡ true

found-at-kept : (advisories : List Advisory) (s : Settings) (test : Advisory → Bool) (placed : ℕ × PackageValue) → Passes test placed.1
    → found_at (filter test advisories) s placed ≡ found_at advisories s placed
unfolding vulnerable_at wanted_at
found-at-kept advisories s test placed passes =
    let one : vulnerable_at (filter test advisories) s placed ≡ vulnerable_at advisories s placed =
    ap (map (as_vulnerable placed)) (narrow test (finds (query_of s) placed.1) (λ a h. passes a (found-bears (query_of s) placed.1 a h)) advisories) in
    let two : wanted_at (filter test advisories) s placed ≡ wanted_at advisories s placed =
    ap (filter_map (as_wanted s placed))
    (narrow test (finds (informational_query s) placed.1) (λ a h. passes a (found-bears (informational_query s) placed.1 a h)) advisories) in
    λ i. one i ++ two i

-- what mends a package by some advisories mends it by all of them
abbrev pub MendAlike : List IdValue → List Advisory → List Advisory → PackageValue → Type 0
MendAlike ids some all p = (a : Advisory) (u : UpdateValue) → IsUpdateBy ids (counting some p) p a u → IsUpdateBy ids (counting all p) p a u

-- a test that no advisory fails which bears on a package
fails-none : (test : Advisory → Bool) (p : PackageValue) → Passes test p → (a : Advisory) → test a ≡ false → bears_on a p ≡ false
fails-none test p passes a is = elim (cases_Bool (bears_on a p)) [
  | inl bears ↦ cc (sym (passes a bears) ∙ is)
  | inr other ↦ other
]

mends-kept : (ids : List IdValue) (advisories : List Advisory) (test : Advisory → Bool) (p : PackageValue) → Passes test p
    → MendAlike ids (filter test advisories) advisories p
mends-kept ids advisories test p passes a u h =
    let few : counting (filter test advisories) p ≡ filter test (counting advisories p) = swapped (selects (about p)) test advisories in
    update-kept test p.version ids (counting advisories p) a u
    (each-kept (selects (about p)) (IsSettledElse test p.version) (λ b selected is. counting-settled p b selected (fails-none test p passes b is)) advisories)
    (subst (λ (others : List Advisory). IsUpdateBy ids others p a u) few h)

-- ---- all packages

passes-first : (test : Advisory → Bool) (p : PackageValue) (ps : List PackageValue) → PassesBearing test (p ∷ ps) → Passes test p
passes-first test p ps any a h = any a (or_left (bears_on a p) (bears_on_any ps a) h)

passes-rest : (test : Advisory → Bool) (p : PackageValue) (ps : List PackageValue) → PassesBearing test (p ∷ ps) → PassesBearing test ps
passes-rest test p ps any a h = any a (or_right (bears_on a p) (bears_on_any ps a) h)

found-from-kept : (advisories : List Advisory) (s : Settings) (test : Advisory → Bool) (n : ℕ) (packages : List PackageValue) → PassesBearing test packages
    → flat_map (found_at (filter test advisories) s) (enumerate_from n packages) ≡ flat_map (found_at advisories s) (enumerate_from n packages)
found-from-kept advisories s test n [] any = refl
found-from-kept advisories s test n (p ∷ ps) any =
    let first : found_at (filter test advisories) s (n, p) ≡ found_at advisories s (n, p) =
    found-at-kept advisories s test (n, p) (passes-first test p ps any) in
    let rest = found-from-kept advisories s test (n + 1) ps (passes-rest test p ps any) in
    λ i. first i ++ rest i

all-mend : (ids : List IdValue) (advisories : List Advisory) (test : Advisory → Bool) (packages : List PackageValue) → PassesBearing test packages
    → All (MendAlike ids (filter test advisories) advisories) packages
all-mend ids advisories test [] any = All-nil (MendAlike ids (filter test advisories) advisories)
all-mend ids advisories test (p ∷ ps) any =
    All-cons (MendAlike ids (filter test advisories) advisories) p ps (mends-kept ids advisories test p (passes-first test p ps any))
    (all-mend ids advisories test ps (passes-rest test p ps any))

-- ---- the advisories that a test passes, among them each that bears on one of these packages

-- they give the same pairs
found-kept : (some all : List Advisory) (test : Advisory → Bool) (packages : List PackageValue) (s : Settings) → PassesBearing test packages
    → some ≡ filter test all → found some packages s ≡ found all packages s
unfolding found
found-kept some all test packages s passes are =
    ap (λ (advisories : List Advisory). flat_map (found_at advisories s) (enumerate_from 0 packages)) are ∙ found-from-kept all s test 0 packages passes

-- and each package is mended alike
mends-same : (ids : List IdValue) (some all : List Advisory) (test : Advisory → Bool) (packages : List PackageValue) → PassesBearing test packages
    → some ≡ filter test all → All (MendAlike ids some all) packages
mends-same ids some all test packages passes are =
    subst (λ (advisories : List Advisory). All (MendAlike ids advisories all) packages) (sym are) (all-mend ids all test packages passes)

-- ---- findings

-- the package of a pair is mended alike
abbrev pub MendAlikeAt : List IdValue → List Advisory → List Advisory → Found → Type 0
MendAlikeAt ids some all f = MendAlike ids some all f.«package»

finding-kept : (s : SubjectValue) (all : List Advisory) (f : FindingValue) → MendAlike s.settings.ignore s.advisories all f.«package» → IsFinding s f
    → IsFinding (record s { advisories = all }) f
finding-kept s all f same is = record {
  is_denied = is.is_denied;
  is_old = is.is_old;
  path = is.path;
  dependents = is.dependents;
  update = λ valid. same f.advisory f.update (is.update valid);
}

each-finding-kept : (s : SubjectValue) (all : List Advisory) (fs : List FindingValue)
    → All (MendAlikeAt s.settings.ignore s.advisories all) (map pair_of fs) → All (IsFinding s) fs → All (IsFinding (record s { advisories = all })) fs
each-finding-kept s all [] same each = All-nil (IsFinding (record s { advisories = all }))
each-finding-kept s all (f ∷ fs) same each =
    let alike = MendAlikeAt s.settings.ignore s.advisories all in
    let here : MendAlike s.settings.ignore s.advisories all f.«package» = All-head alike (pair_of f) (map pair_of fs) same in
    All-cons (IsFinding (record s { advisories = all })) f fs (finding-kept s all f here (All-head (IsFinding s) f fs each))
    (each-finding-kept s all fs (All-tail alike (pair_of f) (map pair_of fs) same) (All-tail (IsFinding s) f fs each))

findings-kept : (s : SubjectValue) (all : List Advisory) (test : Advisory → Bool) (fs : List FindingValue) → PassesBearing test s.packages
    → s.advisories ≡ filter test all → AreFindings s fs → AreFindings (record s { advisories = all }) fs
findings-kept s all test fs passes are is =
    let ids = s.settings.ignore in
    let pairs = found s.advisories s.packages s.settings in
    let alike = MendAlikeAt ids s.advisories all in
    let same = found-of (MendAlike ids s.advisories all) s.advisories s.packages s.settings (mends-same ids s.advisories all test s.packages passes are) in
    let mended = All-filter (λ f. not (is_ignored ids f)) alike pairs same in
    let each = All-same alike (map pair_of fs) (counted ids pairs) is.pairs mended in
    record {
      pairs = is.pairs ∙ ap (counted ids) (found-kept s.advisories all test s.packages s.settings passes are);
      each = each-finding-kept s all fs each is.each;
    }

-- ---- ignored IDs

unused-kept : (k : KeptValue) (all : List Advisory) (ignored : List IgnoredValue) (ids : List IdValue)
    → ((id : IdValue) → list_any (id_eq id) k.ids ≡ list_any (has_id id) all) → filter (is_unused_of k.ids ignored) ids ≡ filter (is_unused all ignored) ids
unused-kept k all ignored ids same =
    filter_agree (is_unused_of k.ids ignored) (is_unused all ignored)
    (λ id. ap (λ b. b && not (list_any (λ (i : IgnoredValue). has_id id i.advisory) ignored)) (same id)) ids

unknown-kept : (k : KeptValue) (all : List Advisory) (ids : List IdValue) → ((id : IdValue) → list_any (id_eq id) k.ids ≡ list_any (has_id id) all)
    → filter (λ id. not (list_any (id_eq id) k.ids)) ids ≡ filter (λ id. not (is_known all id)) ids
unknown-kept k all ids same = filter_agree (λ id. not (list_any (id_eq id) k.ids)) (λ id. not (is_known all id)) (λ id. ap not (same id)) ids

-- ---- the check

pub kept-check : (all : List Advisory) (s : SubjectValue) (test : Advisory → Bool) (k : KeptValue) (c : CheckValue) (ids unused unknown : List IdValue)
    → unused ≡ filter (is_unused_of k.ids c.ignored) ids → unknown ≡ filter (λ id. not (list_any (id_eq id) k.ids)) ids
    → PassesBearing test s.packages → IsKept test all k → s.advisories ≡ k.advisories → s.settings.ignore ≡ ids → IsCheckOf s c
    → IsCheckOf (record s { advisories = all }) (record c { unused = unused; unknown = unknown })
kept-check all s test k c ids unused unknown unused_are unknown_are passes kept same ignore is =
    let are : s.advisories ≡ filter test all = same ∙ kept.advisories in
    let pairs = found-kept s.advisories all test s.packages s.settings passes are in
    let any = found-kept s.advisories all test s.packages (any_severity s.settings) passes are in
    record {
      findings = findings-kept s all test c.findings passes are is.findings;
      ignored = is.ignored ∙ ap (λ fs. map as_ignored (left_out s.settings.ignore fs)) pairs;
      unused = unused_are ∙ (unused-kept k all c.ignored ids kept.ids ∙ ap (filter (is_unused all c.ignored)) (sym ignore));
      unknown = unknown_are ∙ (unknown-kept k all ids kept.ids ∙ ap (filter (λ id. not (is_known all id))) (sym ignore));
      below_threshold = is.below_threshold ∙ (λ i. length (counted s.settings.ignore (any i)) - length (counted s.settings.ignore (pairs i)));
    }

-- ---- yanked packages

-- what is known about yanked packages does not depend on the advisories
pub kept-yanked : (s : SubjectValue) (all : List Advisory) (yanked : List PackageValue) (ys : List YankedValue) → AreYanked s yanked ys
    → AreYanked (record s { advisories = all }) yanked ys
kept-yanked s all yanked ys h = record {
  places = h.places;
  each = All-weaker (IsYanked s) (IsYanked (record s { advisories = all }))
      (λ y is. record { is_denied = is.is_denied; is_old = is.is_old; path = is.path; dependents = is.dependents }) ys h.each;
}
