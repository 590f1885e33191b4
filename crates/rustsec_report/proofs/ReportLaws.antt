-- One more ignored ID, further advisories, and packages of other sources.
use Rattle.std.proofs.Common.{◌≡◌, ◌∙◌, ◌++◌, ◌&&◌, ◌||◌, Bool, true, false, cond, not, List, [], ◌∷◌, map, refl, sym, ap, subst}
use Rattle.std.specs.List.{filter, flat_map}
use Rattle.std.proofs.lemmas.List.{append-nil, map-append}
use Rattle.std.proofs.lemmas.List.Concat.{flat_map-cons}
use Rattle.std.proofs.lemmas.List.Elements.{filter-append}
use Rattle.std.proofs.lemmas.List.Folds.{list_any-append}
use Rattle.rustsec_lock.specs.Package.{PackageValue}
use Rattle.rustsec_texts.specs.IdOrder.{id_eq}
use Rattle.rustsec_texts.specs.Ids.{IdValue}
use Rattle.rustsec_texts.specs.WarningKinds.{warning_kinds}
use Rattle.rustsec_texts.specs.declared.warning_kind.WarningKind.{WarningKind}
use Rattle.rustsec_advisory.specs.declared.advisory.Advisory.{Advisory}
use Rattle.rustsec_database.specs.Pairs.{as_vulnerability, finds, is_audited, pairs, pairs_of}
use Rattle.rustsec_database.specs.Query.{Asked}
use Rattle.rustsec_database.specs.declared.vulnerability.Vulnerability.{Vulnerability}
use Rattle.rustsec_report.specs.Report.{as_warning, found, gives, has_some, info_of, informational_query, is_among, present, query_of, report_of, warnings_by_kind, warnings_of_kind, without}
use Rattle.rustsec_report.specs.ReportLaws.{AddTheirOwn, FindTheSame, LacksOnly, counted, ignoring, is_of_another, warns_of_another, with_others}
use Rattle.rustsec_report.specs.declared.report.Report.{Report}
use Rattle.rustsec_report.specs.declared.settings.Settings.{Settings}
use Rattle.rustsec_report.specs.declared.warning.Warning.{Warning}

-- ---- lists

module _ {A : Type 0} where
  both-step : (q : A → Bool) (b : Bool) (x : A) (us ms : List A) → us ≡ filter q ms
      → cond (b && q x) (x ∷ us) us ≡ filter q (cond b (x ∷ ms) ms)
  both-step q true x us ms h = ap (λ l. cond (q x) (x ∷ l) l) h
  both-step q false x us ms h = h

  -- two tests, one after the other
  filter-both : (p q r : A → Bool) → ((x : A) → r x ≡ (p x && q x)) → (xs : List A) → filter r xs ≡ filter q (filter p xs)
  filter-both p q r h [] = refl
  filter-both p q r h (x ∷ xs) =
      ap (λ b. cond b (x ∷ filter r xs) (filter r xs)) (h x)
      ∙ both-step q (p x) x (filter r xs) (filter p xs) (filter-both p q r h xs)

  none-pass : (b : Bool) (f : A → Bool) → b ≡ false → (xs : List A) → filter (λ x. b && f x) xs ≡ []
  none-pass true f h xs = absurd (cc h)
  none-pass false f h [] = refl
  none-pass false f h (x ∷ xs) = none-pass false f h xs

and-swaps : (a b : Bool) → (a && b) ≡ (b && a)
and-swaps true true = refl
and-swaps true false = refl
and-swaps false true = refl
and-swaps false false = refl

not-either : (a b : Bool) → not (a || (b || false)) ≡ (not a && not b)
not-either true b = refl
not-either false true = refl
not-either false false = refl

map-step : {A B : Type 0} (f : A → B) (x : A) (b : Bool) (us : List B) (vs : List A) → us ≡ map f vs
    → cond b (f x ∷ us) us ≡ map f (cond b (x ∷ vs) vs)
map-step f x true us vs h = ap (λ l. f x ∷ l) h
map-step f x false us vs h = h

pub filter-map : {A B : Type 0} (t : B → Bool) (f : A → B) (xs : List A) → filter t (map f xs) ≡ map f (filter (λ x. t (f x)) xs)
filter-map t f [] = refl
filter-map t f (x ∷ xs) = map-step f x (t (f x)) (filter t (map f xs)) (filter (λ x. t (f x)) xs) (filter-map t f xs)

-- ---- one more ignored ID

module _ (id : IdValue) where
  fewer : (ignored : List IdValue) (vs : List Vulnerability) → without (ignored ++ id ∷ []) vs ≡ filter (is_of_another id) (without ignored vs)
  fewer ignored vs =
      filter-both (λ (v : Vulnerability). not (is_among ignored v.advisory.id)) (is_of_another id)
      (λ (v : Vulnerability). not (is_among (ignored ++ id ∷ []) v.advisory.id))
      (λ v. ap not (list_any-append (λ i. id_eq i v.advisory.id) ignored (id ∷ [])) ∙ not-either (is_among ignored v.advisory.id) (id_eq id v.advisory.id)) vs

  fewer-of-kind : (s : Settings) (k : WarningKind) (vs : List Vulnerability)
      → warnings_of_kind s (filter (is_of_another id) vs) k ≡ filter (warns_of_another id) (warnings_of_kind s vs k)
  fewer-of-kind s k vs =
      let other = is_of_another id in
      let both = λ (v : Vulnerability). other v && gives s k v in
      let first = filter-both other (gives s k) both (λ _. refl) vs in
      let second = filter-both (gives s k) other both (λ v. and-swaps (other v) (gives s k v)) vs in
      ap (map (as_warning k)) (sym first ∙ second) ∙ sym (filter-map (warns_of_another id) (as_warning k) (filter (gives s k) vs))

  left : WarningKind × List Warning → WarningKind × List Warning
  left e = (e.0, filter (warns_of_another id) e.1)

  rows-left : (s : Settings) (vs : List Vulnerability) (ks : List WarningKind)
      → map (λ k. (k, warnings_of_kind s (filter (is_of_another id) vs) k)) ks ≡ map left (map (λ k. (k, warnings_of_kind s vs k)) ks)
  unfolding left
  rows-left s vs [] = refl
  rows-left s vs (k ∷ ks) = let here = fewer-of-kind s k vs in let there = rows-left s vs ks in λ i. (k, here i) ∷ there i

  present-left : (es : List (WarningKind × List Warning)) → present (map left (present es)) ≡ present (map left es)
  unfolding left
  present-left [] = refl
  present-left ((k, []) ∷ es) = present-left es
  present-left ((k, w ∷ ws) ∷ es) =
      let here = left (k, w ∷ ws) in
      ap (λ l. cond (has_some here.1) (here ∷ l) l) (present-left es)

  fewer-warnings : (s : Settings) (vs : List Vulnerability)
      → warnings_by_kind s (filter (is_of_another id) vs) ≡ present (map (λ e. (e.0, filter (warns_of_another id) e.1)) (warnings_by_kind s vs))
  unfolding warnings_by_kind left
  fewer-warnings s vs =
      ap present (rows-left s vs warning_kinds) ∙ sym (present-left (map (λ k. (k, warnings_of_kind s vs k)) warning_kinds))

  -- the warnings of pairs do not depend on the ignored IDs
  same-warnings : (s : Settings) (vs : List Vulnerability) → warnings_by_kind (ignoring id s) vs ≡ warnings_by_kind s vs
  unfolding warnings_by_kind
  same-warnings s vs = refl

  pub lacks_only : (r : Report) (advisories : List Advisory) (packages : List PackageValue) (s : Settings)
      → r ≡ report_of advisories packages s → LacksOnly id r (report_of advisories packages (ignoring id s))
  lacks_only r advisories packages s is =
      subst (λ (x : Report). LacksOnly id x (report_of advisories packages (ignoring id s))) (sym is) (record {
        vulnerabilities = ap info_of (fewer s.ignore (found advisories packages (query_of s)));
        warnings = same-warnings s (without (ignoring id s).ignore (found advisories packages (informational_query s)))
            ∙ (ap (warnings_by_kind s) (fewer s.ignore (found advisories packages (informational_query s)))
            ∙ fewer-warnings s (without s.ignore (found advisories packages (informational_query s))));
      })

-- ---- package by package

module _ (s : Settings) (q : Asked) where
  counts : Vulnerability → Bool
  counts v = not (is_among s.ignore v.advisory.id)

  -- the pairs of one package that count
  own : List Advisory → PackageValue → List Vulnerability
  own advisories p = filter counts (map as_vulnerability (pairs_of advisories q p))

  by-package : (advisories : List Advisory) (packages : List PackageValue) → counted advisories packages s q ≡ flat_map (own advisories) packages
  unfolding pairs own counts
  by-package advisories [] = refl
  by-package advisories (p ∷ packages) =
      let here = map as_vulnerability (pairs_of advisories q p) in
      let there = map as_vulnerability (pairs advisories packages q) in
      ap (λ l. filter counts (map as_vulnerability l)) (flat_map-cons (pairs_of advisories q) p packages)
      ∙ (ap (filter counts) (map-append as_vulnerability (pairs_of advisories q p) (pairs advisories packages q))
      ∙ (filter-append counts here there
      ∙ (ap (λ l. own advisories p ++ l) (by-package advisories packages) ∙ sym (flat_map-cons (own advisories) p packages))))

  of-one : (advisories : List Advisory) (p : PackageValue) → counted advisories (p ∷ []) s q ≡ own advisories p
  of-one advisories p = by-package advisories (p ∷ []) ∙ (flat_map-cons (own advisories) p [] ∙ append-nil (own advisories p))

  own-more : (advisories others : List Advisory) (p : PackageValue) → own (advisories ++ others) p ≡ own advisories p ++ own others p
  unfolding own counts
  own-more advisories others p =
      ap (λ l. filter counts (map as_vulnerability (map (λ a. record { of = p; by = a }) l))) (filter-append (finds q p) advisories others)
      ∙ (ap (λ l. filter counts (map as_vulnerability l)) (map-append (λ a. record { of = p; by = a }) (filter (finds q p) advisories) (filter (finds q p) others))
      ∙ (ap (filter counts) (map-append as_vulnerability (pairs_of advisories q p) (pairs_of others q p))
      ∙ filter-append counts (map as_vulnerability (pairs_of advisories q p)) (map as_vulnerability (pairs_of others q p))))

  pub one-by-one : (advisories : List Advisory) (packages : List PackageValue)
      → counted advisories packages s q ≡ flat_map (λ p. counted advisories (p ∷ []) s q) packages
  one-by-one advisories packages =
      let same = λ (p : PackageValue). sym (of-one advisories p) in
      by-package advisories packages ∙ ap (λ f. flat_map f packages) (λ i p. same p i)

  pub with-others : (advisories others : List Advisory) (packages : List PackageValue)
      → counted (advisories ++ others) packages s q ≡ with_others advisories others packages s q
  with-others advisories others packages =
      let same = λ (p : PackageValue). own-more advisories others p ∙ (λ i. sym (of-one advisories p) i ++ sym (of-one others p) i) in
      by-package (advisories ++ others) packages ∙ ap (λ f. flat_map f packages) (λ i p. same p i)

  own-none : (advisories : List Advisory) (p : PackageValue) → is_audited p ≡ false → own advisories p ≡ []
  unfolding own
  own-none advisories p h = ap (λ l. filter counts (map as_vulnerability (map (λ a. record { of = p; by = a }) l))) (none-pass (is_audited p) _ h advisories)

  alone-step : (advisories : List Advisory) (p : PackageValue) (b : Bool) → is_audited p ≡ b → (us : List Vulnerability) (ps : List PackageValue)
      → us ≡ flat_map (own advisories) ps → own advisories p ++ us ≡ flat_map (own advisories) (cond b (p ∷ ps) ps)
  alone-step advisories p true is us ps h = ap (λ l. own advisories p ++ l) h ∙ sym (flat_map-cons (own advisories) p ps)
  alone-step advisories p false is us ps h = ap (λ l. l ++ us) (own-none advisories p is) ∙ h

  audited-alone : (advisories : List Advisory) (packages : List PackageValue)
      → flat_map (own advisories) packages ≡ flat_map (own advisories) (filter is_audited packages)
  audited-alone advisories [] = refl
  audited-alone advisories (p ∷ packages) =
      flat_map-cons (own advisories) p packages
      ∙ alone-step advisories p (is_audited p) refl (flat_map (own advisories) packages) (filter is_audited packages) (audited-alone advisories packages)

  pub of-audited : (advisories : List Advisory) (packages : List PackageValue)
      → counted advisories packages s q ≡ counted advisories (filter is_audited packages) s q
  of-audited advisories packages =
      by-package advisories packages ∙ (audited-alone advisories packages ∙ sym (by-package advisories (filter is_audited packages)))

pub add_their_own : (r : Report) (advisories others : List Advisory) (packages : List PackageValue) (s : Settings)
    → r ≡ report_of advisories packages s → AddTheirOwn advisories others packages s r (report_of (advisories ++ others) packages s)
add_their_own r advisories others packages s is = record {
  before = ap (λ (x : Report). x.vulnerabilities.list) is ∙ one-by-one s (query_of s) advisories packages;
  after = ap info_of (with-others s (query_of s) advisories others packages);
  warned_before = ap (λ (x : Report). x.warnings) is ∙ ap (warnings_by_kind s) (one-by-one s (informational_query s) advisories packages);
  warned_after = ap (warnings_by_kind s) (with-others s (informational_query s) advisories others packages);
}

pub find_the_same : (r : Report) (advisories : List Advisory) (packages : List PackageValue) (s : Settings)
    → r ≡ report_of advisories packages s → FindTheSame r (report_of advisories (filter is_audited packages) s)
find_the_same r advisories packages s is = record {
  vulnerabilities = ap (λ (x : Report). x.vulnerabilities) is ∙ ap info_of (of-audited s (query_of s) advisories packages);
  warnings = ap (λ (x : Report). x.warnings) is ∙ ap (warnings_by_kind s) (of-audited s (informational_query s) advisories packages);
}
