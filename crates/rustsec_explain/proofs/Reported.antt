-- A pair is a finding exactly if the report of its advisory and its package lists something.
use Rattle.std.proofs.Common.{◌≡◌, ◌∙◌, ◌↔◌, ◌≢◌, ◌++◌, ◌&&◌, ◌||◌, Bool, true, false, cond, not, List, [], ◌∷◌, map, Option, Some, None, refl, sym, ap}
use Rattle.std.specs.Prelude.{is_some, option_and_then}
use Rattle.std.specs.Option.{option_eq}
use Rattle.std.proofs.lemmas.List.Concat.{flat_map-cons}
use denote.Enum.Bare.{sameb}
use Rattle.rustsec_lock.specs.Package.{PackageValue}
use Rattle.rustsec_texts.specs.WarningKinds.{warning_kinds}
use Rattle.rustsec_texts.specs.contracts.warning_kind.WarningKind.{the_type as warning_kind}
use Rattle.rustsec_texts.specs.declared.warning_kind.WarningKind.{WarningKind}
use Rattle.rustsec_texts.specs.declared.warning_kind.WarningKind.TheVariants as kind
use Rattle.rustsec_advisory.specs.declared.advisory.Advisory.{Advisory}
use Rattle.rustsec_database.specs.Pairs.{as_vulnerability, finds, pairs, pairs_of, vulnerability_of}
use Rattle.rustsec_database.specs.Query.{Asked}
use Rattle.rustsec_database.specs.declared.vulnerability.Vulnerability.{Vulnerability}
use Rattle.rustsec_report.specs.Report.{as_warning, found, informational_query, present, query_of, report_of, wanted_kind, warnings_by_kind, without}
use Rattle.rustsec_report.specs.declared.settings.Settings.{Settings}
use Rattle.rustsec_report.specs.declared.warning.Warning.{Warning}
use Rattle.rustsec_explain.specs.declared.reason.Reason.{Reason}
use Rattle.rustsec_explain.specs.Reasons.{is_finding, is_ignored, is_vulnerability, is_warning}
use Rattle.rustsec_explain.specs.Reported.{ListsNothing}

module _ (s : Settings) (a : Advisory) (p : PackageValue) where
  -- the pair as a list, if a test holds
  if-so : Bool → List Vulnerability
  if-so b = cond b (vulnerability_of a p ∷ []) []

  lone : (b : Bool) → without s.ignore (map as_vulnerability (map (λ x. record { of = p; by = x }) (cond b (a ∷ []) []) ++ [])) ≡ if-so (b && not (is_ignored s a))
  unfolding if-so
  lone true = refl
  lone false = refl

  -- what is found of the pair
  counted : (q : Asked) → without s.ignore (found (a ∷ []) (p ∷ []) q) ≡ if-so (finds q p a && not (is_ignored s a))
  unfolding pairs
  counted q = ap (λ l. without s.ignore (map as_vulnerability l)) (flat_map-cons (pairs_of (a ∷ []) q) p []) ∙ lone (finds q p a)

  -- ---- vulnerabilities

  none-there : (b : Bool) → if-so b ≡ [] → b ≡ false
  unfolding if-so
  none-there true h = absurd (cc h)
  none-there false h = refl

  -- ---- warnings

  -- the warnings of the pair, by the kind that it gives
  by-kind : Option WarningKind → List (WarningKind × List Warning)
  by-kind o =
      present (map (λ k. (k, map (as_warning k) (cond (option_eq (sameb warning_kind) o (Some k)) (vulnerability_of a p ∷ []) []))) warning_kinds)

  some-by : (k : WarningKind) → by-kind (Some k) ≡ [] → ⊥
  unfolding by-kind
  some-by kind.Notice h = cc h
  some-by kind.Unmaintained h = cc h
  some-by kind.Unsound h = cc h
  some-by kind.Yanked h = cc h

  none-by : by-kind None ≡ []
  unfolding by-kind
  none-by = refl

  kinds : (b : Bool) → warnings_by_kind s (if-so b) ≡ cond b (by-kind (option_and_then (wanted_kind s) a.metadata.informational)) []
  unfolding if-so by-kind warnings_by_kind
  kinds true = refl
  kinds false = refl

  quiet : (f counts : Bool) (o : Option WarningKind) → (f && (counts && is_some o)) ≡ false → cond (f && counts) (by-kind o) [] ≡ []
  quiet true true None h = none-by
  quiet true true (Some k) h = absurd (cc h)
  quiet true false o h = refl
  quiet false counts o h = refl

  silent : (f counts : Bool) (o : Option WarningKind) → cond (f && counts) (by-kind o) [] ≡ [] → (f && (counts && is_some o)) ≡ false
  silent true true None h = refl
  silent true true (Some k) h = absurd (some-by k h)
  silent true false o h = refl
  silent false counts o h = refl

  neither : (x y : Bool) → (x || y) ≡ false → (x ≡ false) × (y ≡ false)
  neither true y h = absurd (cc h)
  neither false y h = (refl, h)

  both : (x y : Bool) → x ≡ false → y ≡ false → (x || y) ≡ false
  both true y h i = absurd (cc h)
  both false y h i = i

  quietly : (is_finding s a p ≡ false) ↔ ListsNothing (report_of (a ∷ []) (p ∷ []) s)
  unfolding if-so
  quietly =
      let f = finds (informational_query s) p a in
      let counts = not (is_ignored s a) in
      let o = option_and_then (wanted_kind s) a.metadata.informational in
      let shown = ap (warnings_by_kind s) (counted (informational_query s)) ∙ kinds (f && counts) in (
        λ h. let (first, second) = neither (is_vulnerability s a p) (is_warning s a p) h in
            (counted (query_of s) ∙ ap if-so first, shown ∙ quiet f counts o second),
        λ h. both (is_vulnerability s a p) (is_warning s a p) (none-there (is_vulnerability s a p) (sym (counted (query_of s)) ∙ h.0))
            (silent f counts o (sym shown ∙ h.1)),
      )

  not-so : (b : Bool) → (b ≡ true → ⊥) → b ≡ false
  not-so true h = absurd (h refl)
  not-so false h = refl

  so : (b : Bool) → b ≡ false → b ≡ true → ⊥
  so b f t = cc (sym f ∙ t)

  -- a list that is empty exactly if the pair is a finding
  pub reported : (rs : List Reason) → (rs ≡ []) ↔ (is_finding s a p ≡ true) → (rs ≢ []) ↔ ListsNothing (report_of (a ∷ []) (p ∷ []) s)
  reported rs empty = (
    λ h. quietly.0 (not-so (is_finding s a p) (λ t. h (empty.1 t))),
    λ h none. so (is_finding s a p) (quietly.1 h) (empty.0 none),
  )
