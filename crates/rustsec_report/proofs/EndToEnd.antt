-- The report of advisories and packages is the report of the files and the table that they come from.
use Rattle.std.proofs.Common.{◌≡◌, ◌↔◌, ℕ, Bool, true, false, not, Contains, List, [], ◌∷◌, map, None, Option, Some, inl, inr, refl, sym, ap, subst}
use Rattle.std.specs.List.{filter}
use Rattle.std.proofs.lemmas.Bool.{not-true, not_from_false}
use Rattle.toml.specs.Data.{Members}
use Rattle.toml.specs.Parse.{parse_document}
use Rattle.rustsec_values.specs.Reading.{◌>>=◌}
use Rattle.rustsec_files.specs.declared.source_file.SourceFile.{SourceFile}
use Rattle.rustsec_lock.specs.Lockfile.{lockfile_of, packages_of}
use Rattle.rustsec_lock.specs.Package.{PackageValue}
use Rattle.rustsec_texts.specs.WarningKinds.{warning_kinds}
use Rattle.rustsec_texts.specs.declared.warning_kind.WarningKind.{WarningKind}
use Rattle.rustsec_texts.specs.declared.warning_kind.WarningKind.TheVariants as kind
use Rattle.rustsec_advisory.specs.declared.advisory.Advisory.{Advisory}
use Rattle.rustsec_database.proofs.Once.{filed-unique}
use Rattle.rustsec_database.specs.Placement.{IsFiled}
use Rattle.rustsec_database.specs.Loaded.{AreLoaded, is_stored}
use Rattle.rustsec_database.specs.Pairs.{Pair, as_vulnerability, finds, pairs, pairs_of, vulnerability_of}
use Rattle.rustsec_database.specs.Query.{Asked}
use Rattle.rustsec_database.specs.declared.vulnerability.Vulnerability.{Vulnerability}
use Rattle.rustsec_report.specs.EndToEnd.{Holds, IsHeld, IsReportOf, IsReportOfText, IsSelected, IsWarned}
use Rattle.rustsec_report.specs.Report.{as_warning, found, gives, has_some, informational_query, is_among, query_of, report_of, vulnerabilities, warnings, warnings_by_kind, warnings_of_kind, without}
use Rattle.rustsec_report.specs.declared.report.Report.{Report}
use Rattle.rustsec_report.specs.declared.settings.Settings.{Settings}
use Rattle.rustsec_report.specs.declared.warning.Warning.{Warning}
use Rattle.rustsec_report.proofs.Members.{Among, among, contained, joined, kept, left-of, made, maker, part, passed, right-of}

-- ---- advisories and files

module _ (files : List SourceFile) (advisories : List Advisory) (loaded : AreLoaded files advisories) where
  pub held : (a : Advisory) → Among advisories a → IsHeld files a
  held a h =
      let stored = passed is_stored loaded.all a (subst (λ (l : List Advisory). Among l a) loaded.loaded_are h) in
      let from = left-of (λ (f : SourceFile) b. IsFiled f.path f.text b) files loaded.all a loaded.are_filed stored.0 in
      (from.0, contained files from.0 from.1, from.2, stored.1)

  pub held-among : (a : Advisory) → IsHeld files a → Among advisories a
  held-among a h =
      let to = right-of (λ (f : SourceFile) b. IsFiled f.path f.text b) files loaded.all h.0 loaded.are_filed (among files h.0 h.1) in
      let same = filed-unique h.0.path h.0.text to.0 a to.2 h.2 in
      subst (λ (l : List Advisory). Among l a) (sym loaded.loaded_are) (kept is_stored loaded.all a (subst (Among loaded.all) same to.1) h.3)

-- ---- pairs

module _ (files : List SourceFile) (advisories : List Advisory) (loaded : AreLoaded files advisories) (packages : List PackageValue)
    (s : Settings) (q : Asked) where
  counted : Vulnerability → Bool
  counted v = not (is_among s.ignore v.advisory.id)

  pair_of : PackageValue → Advisory → Pair
  pair_of p a = record { of = p; by = a }

  of-pairs : (pair : Pair) → Among (pairs advisories packages q) pair → Among packages pair.of × Among advisories pair.by × (finds q pair.of pair.by ≡ true)
  unfolding pairs pair_of
  of-pairs pair h =
      let p = part (pairs_of advisories q) packages pair h in
      let a = maker (pair_of p.0) (filter (finds q p.0) advisories) pair p.2 in
      let f = passed (finds q p.0) advisories a.0 a.1 in
      subst (λ (x : Pair). Among packages x.of × Among advisories x.by × (finds q x.of x.by ≡ true)) a.2 (p.1, f.0, f.1)

  to-pairs : (p : PackageValue) (a : Advisory) → Among packages p → Among advisories a → finds q p a ≡ true → Among (pairs advisories packages q) (pair_of p a)
  unfolding pairs pair_of
  to-pairs p a hp ha f = joined (pairs_of advisories q) packages p (pair_of p a) hp (made (pair_of p) (filter (finds q p) advisories) a (kept (finds q p) advisories a ha f))

  pub selected : (v : Vulnerability) → Among (without s.ignore (found advisories packages q)) v → IsSelected files packages s q v
  unfolding counted
  selected v h =
      let c = passed counted (found advisories packages q) v h in
      let m = maker as_vulnerability (pairs advisories packages q) v c.0 in
      let o = of-pairs m.0 m.1 in
      record {
        of = m.0.of;
        by = m.0.by;
        is_locked = contained packages m.0.of o.0;
        is_held = held files advisories loaded m.0.by o.1;
        is_found = o.2;
        counts = subst (λ (x : Vulnerability). is_among s.ignore x.advisory.id ≡ false) (sym m.2) (not-true _ c.1);
        is = sym m.2;
      }

  pub listed : (v : Vulnerability) → IsSelected files packages s q v → Among (without s.ignore (found advisories packages q)) v
  unfolding counted pair_of
  listed v h =
      let p = to-pairs h.of h.by (among packages h.of h.is_locked) (held-among files advisories loaded h.by h.is_held) h.is_found in
      let m = made as_vulnerability (pairs advisories packages q) (pair_of h.of h.by) p in
      subst (Among (without s.ignore (found advisories packages q))) (sym h.is)
      (kept counted (found advisories packages q) (vulnerability_of h.by h.of) m (not_from_false _ h.counts))

-- ---- warnings

abbrev every_kind : Type 0
every_kind = (k : WarningKind) → Among warning_kinds k

module _ (s : Settings) (vs : List Vulnerability) where
  rows : WarningKind → WarningKind × List Warning
  rows k = (k, warnings_of_kind s vs k)

  some-there : (ws : List Warning) (w : Warning) → Among ws w → has_some ws ≡ true
  some-there [] w h = absurd h
  some-there (x ∷ ws) w h = refl

  pub under : (k : WarningKind) (w : Warning) → Holds (warnings_by_kind s vs) k w → (v : Vulnerability) × Among vs v × (gives s k v ≡ true) × (w ≡ as_warning k v)
  unfolding warnings_by_kind rows
  under k w h =
      let e = passed (λ (e : WarningKind × List Warning). has_some e.1) (map rows warning_kinds) (k, h.0) (among (warnings_by_kind s vs) (k, h.0) h.1) in
      let r = maker rows warning_kinds (k, h.0) e.0 in
      let at : (rows r.0).1 ≡ h.0 = ap (λ (e : WarningKind × List Warning). e.1) r.2 in
      let kind : r.0 ≡ k = ap (λ (e : WarningKind × List Warning). e.0) r.2 in
      let there : Among (warnings_of_kind s vs k) w = subst (λ (j : WarningKind). Among (warnings_of_kind s vs j) w) kind (subst (λ (l : List Warning). Among l w) (sym at) (among h.0 w h.2)) in
      let m = maker (as_warning k) (filter (gives s k) vs) w there in
      let p = passed (gives s k) vs m.0 m.1 in
      (m.0, p.0, p.1, sym m.2)

  pub holds : every_kind → (k : WarningKind) (v : Vulnerability) → Among vs v → gives s k v ≡ true → Holds (warnings_by_kind s vs) k (as_warning k v)
  unfolding warnings_by_kind rows
  holds all k v h g =
      let w = made (as_warning k) (filter (gives s k) vs) v (kept (gives s k) vs v h g) in (
        warnings_of_kind s vs k,
        contained (warnings_by_kind s vs) (rows k) (kept (λ (e : WarningKind × List Warning). has_some e.1) (map rows warning_kinds) (rows k) (made rows warning_kinds k (all k)) (some-there (warnings_of_kind s vs k) (as_warning k v) w)),
        contained (warnings_of_kind s vs k) (as_warning k v) w,
      )

kinds-all : every_kind
kinds-all kind.Notice = inl refl
kinds-all kind.Unmaintained = inr (inl refl)
kinds-all kind.Unsound = inr (inr (inl refl))
kinds-all kind.Yanked = inr (inr (inr (inl refl)))

-- ---- the report

module _ (files : List SourceFile) (table : Members) (advisories : List Advisory) (packages : List PackageValue) (s : Settings)
    (loaded : AreLoaded files advisories) (locked : packages_of table ≡ Some packages) where
  lists : (v : Vulnerability) → Contains (vulnerabilities advisories packages s) v ↔ IsSelected files packages s (query_of s) v
  lists v = (
    λ h. selected files advisories loaded packages s (query_of s) v (among (vulnerabilities advisories packages s) v h),
    λ h. contained (vulnerabilities advisories packages s) v (listed files advisories loaded packages s (query_of s) v h),
  )

  warned : (k : WarningKind) (w : Warning) → Holds (warnings advisories packages s) k w → IsWarned files packages s k w
  warned k w h =
      let u = under s (without s.ignore (found advisories packages (informational_query s))) k w h in
      record { pair = u.0; is_selected = selected files advisories loaded packages s (informational_query s) u.0 u.1; is_given = u.2; is = u.3 }

  warns : (k : WarningKind) (w : Warning) → IsWarned files packages s k w → Holds (warnings advisories packages s) k w
  warns k w h =
      let v = listed files advisories loaded packages s (informational_query s) h.pair h.is_selected in
      subst (Holds (warnings advisories packages s) k) (sym h.is)
      (holds s (without s.ignore (found advisories packages (informational_query s))) kinds-all k h.pair v h.is_given)

  is-report : IsReportOf files table s (report_of advisories packages s)
  is-report = record {
    advisories = advisories;
    packages = packages;
    are_loaded = loaded;
    are_packages = locked;
    in_order = refl;
    vulnerabilities = lists;
    warnings = λ k w. (warned k w, warns k w);
  }

pub report-chain : (r : Report) (advisories : List Advisory) (packages : List PackageValue) (s : Settings) → r ≡ report_of advisories packages s
    → (files : List SourceFile) (table : Members) → AreLoaded files advisories → packages_of table ≡ Some packages → IsReportOf files table s r
report-chain r advisories packages s is files table loaded locked =
    subst (IsReportOf files table s) (sym is) (is-report files table advisories packages s loaded locked)

-- ---- of a lockfile's text

-- the document whose table gives a lockfile's packages
table-of : (document : Option Members) (packages : List PackageValue) → document >>= packages_of ≡ Some packages
    → (table : Members) × ((document ≡ Some table) × (packages_of table ≡ Some packages))
table-of None packages h = cc h
table-of (Some table) packages h = (table, (refl, h))

pub report-of-text : (files : List SourceFile) (text : List ℕ) (s : Settings) (advisories : List Advisory) (packages : List PackageValue) (r : Report)
    → AreLoaded files advisories → lockfile_of text ≡ Some packages
    → ((fs : List SourceFile) (table : Members) → AreLoaded fs advisories → packages_of table ≡ Some packages → IsReportOf fs table s r)
    → IsReportOfText files text s r
report-of-text files text s advisories packages r loaded locked chain =
    let (table, (document, holds)) = table-of (parse_document text) packages locked in
    (table, (document, chain files table loaded holds))
