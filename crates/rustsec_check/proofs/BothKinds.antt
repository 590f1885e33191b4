-- One query finds the vulnerabilities of a package and the warnings about it.
use Rattle.std.proofs.Common.{◌≡◌, ◌∙◌, ◌&&◌, ℕ, Bool, true, false, List, [], ◌∷◌, Option, Some, None, ap, inl, inr, map, refl, sym}
use Rattle.std.specs.Prelude.{if◌then◌else◌, is_some}
use Rattle.std.specs.Bool.{beq}
use Rattle.std.specs.List.{cons_option, filter, filter_map}
use Rattle.std.proofs.lemmas.Bool.{and_right, cases_Bool}
use Rattle.rustsec_lock.specs.Package.{PackageValue}
use Rattle.rustsec_texts.specs.declared.informational.Informational.{Informational}
use Rattle.rustsec_advisory.specs.declared.advisory.Advisory.{Advisory}
use Rattle.rustsec_database.specs.Pairs.{finds, is_audited}
use Rattle.rustsec_database.specs.Query.{Asked, of_package}
use Rattle.rustsec_database.specs.Selects.{as_withdrawn, has_name, has_source, has_version, in_collection, is_severe, of_year, on_arch, on_os, selects}
use Rattle.rustsec_report.specs.declared.settings.Settings.{Settings}
use Rattle.rustsec_report.specs.Report.{informational_query, query_of}
use Rattle.rustsec_check.specs.Pairs.{as_unwarned, as_vulnerable, as_wanted, query_of_both, vulnerable_at, wanted_at}

module _ (s : Settings) (placed : ℕ × PackageValue) where
  abbrev q : Asked
  q = of_package (query_of s) placed.1

  -- the other tests of the query, and one more
  abbrev before : Advisory → Bool
  before a =
      in_collection q a
      && has_name q a
      && has_version q a
      && has_source q a
      && is_severe q a
      && on_arch q a
      && on_os q a
      && of_year q a
      && as_withdrawn q a

  abbrev others : Advisory → Bool → Bool
  others a last = is_audited placed.1 && (before a && last)

  others-false : (a : Advisory) (last : Bool) → last ≡ false → others a last ≡ false
  others-false a last h = and_right (is_audited placed.1) (before a && last) (and_right (before a) last h)

  finds-vulnerable : (a : Advisory) → finds (query_of s) placed.1 a ≡ others a (beq false (is_some a.metadata.informational))
  unfolding selects
  finds-vulnerable a = refl

  finds-warning : (a : Advisory) → finds (informational_query s) placed.1 a ≡ others a (beq true (is_some a.metadata.informational))
  unfolding selects
  finds-warning a = refl

  finds-both : (a : Advisory) → finds (query_of_both s) placed.1 a ≡ others a true
  unfolding selects
  finds-both a = refl

  -- ---- vulnerabilities

  abbrev VulnerableBy : List Advisory → Type 0
  VulnerableBy xs =
      filter_map (as_unwarned placed) (filter (finds (query_of_both s) placed.1) xs) ≡ map (as_vulnerable placed) (filter (finds (query_of s) placed.1) xs)

  vulnerable-step : (a : Advisory) (rest : List Advisory) (k : Option Informational) → a.metadata.informational ≡ k → VulnerableBy rest → VulnerableBy (a ∷ rest)
  vulnerable-step a rest None is so =
      let same : finds (query_of_both s) placed.1 a ≡ finds (query_of s) placed.1 a =
      finds-both a ∙ (ap (others a) (sym (ap (λ o. beq false (is_some o)) is)) ∙ sym (finds-vulnerable a)) in
      let given :
      cons_option (as_unwarned placed a) (filter_map (as_unwarned placed) (filter (finds (query_of_both s) placed.1) rest))
      ≡ as_vulnerable placed a ∷ filter_map (as_unwarned placed) (filter (finds (query_of_both s) placed.1) rest) =
      ap (λ o. cons_option (if is_some o then None else Some (as_vulnerable placed a)) (filter_map (as_unwarned placed) (filter (finds (query_of_both s) placed.1) rest))) is in
      elim (cases_Bool (finds (query_of s) placed.1 a)) [
        | inl is_found ↦ rw (same ∙ is_found, is_found) (given ∙ ap (λ fs. as_vulnerable placed a ∷ fs) so)
        | inr is_left ↦ rw (same ∙ is_left, is_left) so
      ]
  vulnerable-step a rest (Some k) is so =
      let never : finds (query_of s) placed.1 a ≡ false =
      finds-vulnerable a ∙ others-false a (beq false (is_some a.metadata.informational)) (ap (λ o. beq false (is_some o)) is) in
      elim (cases_Bool (finds (query_of_both s) placed.1 a)) [
        | inl is_found ↦ rw (is_found, never, is) so
        | inr is_left ↦ rw (is_left, never) so
      ]

  vulnerable-both : (advisories : List Advisory) → VulnerableBy advisories
  vulnerable-both [] = refl
  vulnerable-both (a ∷ rest) = vulnerable-step a rest a.metadata.informational refl (vulnerable-both rest)

  -- ---- warnings

  abbrev WantedBy : List Advisory → Type 0
  WantedBy xs =
      filter_map (as_wanted s placed) (filter (finds (query_of_both s) placed.1) xs)
      ≡ filter_map (as_wanted s placed) (filter (finds (informational_query s) placed.1) xs)

  wanted-step : (a : Advisory) (rest : List Advisory) (k : Option Informational) → a.metadata.informational ≡ k → WantedBy rest → WantedBy (a ∷ rest)
  wanted-step a rest None is so =
      let never : finds (informational_query s) placed.1 a ≡ false =
      finds-warning a ∙ others-false a (beq true (is_some a.metadata.informational)) (ap (λ o. beq true (is_some o)) is) in
      elim (cases_Bool (finds (query_of_both s) placed.1 a)) [
        | inl is_found ↦ rw (is_found, never, is) so
        | inr is_left ↦ rw (is_left, never) so
      ]
  wanted-step a rest (Some k) is so =
      let same : finds (query_of_both s) placed.1 a ≡ finds (informational_query s) placed.1 a =
      finds-both a ∙ (ap (others a) (sym (ap (λ o. beq true (is_some o)) is)) ∙ sym (finds-warning a)) in
      elim (cases_Bool (finds (informational_query s) placed.1 a)) [
        | inl is_found ↦ rw (same ∙ is_found, is_found) (ap (cons_option (as_wanted s placed a)) so)
        | inr is_left ↦ rw (same ∙ is_left, is_left) so
      ]

  wanted-both : (advisories : List Advisory) → WantedBy advisories
  wanted-both [] = refl
  wanted-both (a ∷ rest) = wanted-step a rest a.metadata.informational refl (wanted-both rest)

-- the vulnerabilities among what one query finds
pub vulnerable-by : (advisories : List Advisory) (s : Settings) (q : Asked) (placed : ℕ × PackageValue) → q ≡ query_of_both s
    → filter_map (as_unwarned placed) (filter (finds q placed.1) advisories) ≡ vulnerable_at advisories s placed
unfolding vulnerable_at
vulnerable-by advisories s q placed is =
    ap (λ r. filter_map (as_unwarned placed) (filter (finds r placed.1) advisories)) is ∙ vulnerable-both s placed advisories

-- and the warnings
pub wanted-by : (advisories : List Advisory) (s : Settings) (q : Asked) (placed : ℕ × PackageValue) → q ≡ query_of_both s
    → filter_map (as_wanted s placed) (filter (finds q placed.1) advisories) ≡ wanted_at advisories s placed
unfolding wanted_at
wanted-by advisories s q placed is =
    ap (λ r. filter_map (as_wanted s placed) (filter (finds r placed.1) advisories)) is ∙ wanted-both s placed advisories
