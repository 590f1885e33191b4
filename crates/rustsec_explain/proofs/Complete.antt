-- A pair is a finding exactly if it has no reason.
use Rattle.std.proofs.Common.{◌≡◌, ◌∙◌, ◌↔◌, ◌++◌, ◌+◌, ◌&&◌, ◌||◌, ℕ, Bool, true, false, not, List, [], ◌∷◌, Option, Some, None, refl, sym, ap}
use Rattle.std.specs.Prelude.{filter_map, if◌then◌else◌, is_some, option_and_then}
use Rattle.std.specs.Bool.{beq}
use Rattle.std.specs.List.{cons_option, list_any}
use Rattle.std.proofs.lemmas.List.Elements.{filter_map-append}
use Rattle.std.proofs.lemmas.List.Folds.{list_any-append}
use Rattle.std.proofs.lemmas.Bool.{not-false}
use Rattle.semver.specs.Parse.{Held, Parts}
use Rattle.rustsec_versions.specs.interval.Interval.{Interval, holds}
use Rattle.rustsec_versions.specs.acceptance.Lists.{affected}
use Rattle.rustsec_versions.specs.requirement.Requirement.{interval_of}
use Rattle.rustsec_lock.specs.Package.{PackageValue}
use Rattle.rustsec_lock.specs.Source.{Source}
use Rattle.rustsec_texts.specs.Informational.{kind_of_warnings}
use Rattle.rustsec_texts.specs.declared.informational.Informational.{Informational}
use Rattle.rustsec_texts.specs.declared.warning_kind.WarningKind.{WarningKind}
use Rattle.rustsec_advisory.specs.declared.advisory.Advisory.{Advisory}
use Rattle.rustsec_database.specs.Pairs.{is_default_there}
use Rattle.rustsec_database.specs.Selects.{has_name, has_source, in_collection, is_severe, on_arch, on_os, selects}
use Rattle.rustsec_report.specs.Report.{is_wanted, wanted_kind}
use Rattle.rustsec_report.specs.declared.settings.Settings.{Settings}
use Rattle.rustsec_explain.specs.declared.reason.Reason.{Reason}
use Rattle.rustsec_explain.specs.Reasons.{Row, applying, fails, held_by, is_elsewhere, is_finding, is_ignored, is_within, limit_rows, query_for, reasons_of, requirement_rows, rows, standing_rows, version_rows, warns}

-- ---- rows that apply

-- whether some row applies
abbrev some_applies : List Row → Bool
some_applies table = list_any (λ row. row.1) table

none-apply : (table : List Row) → applying table ≡ [] → some_applies table ≡ false
none-apply [] h = refl
none-apply ((r, true) ∷ table) h = absurd (cc h)
none-apply ((r, false) ∷ table) h = none-apply table h

no-reasons : (table : List Row) → some_applies table ≡ false → applying table ≡ []
no-reasons [] h = refl
no-reasons ((r, true) ∷ table) h = absurd (cc h)
no-reasons ((r, false) ∷ table) h = no-reasons table h

-- ---- requirements that hold the version

module _ (v : Parts) where
  hold : List Interval → Bool
  hold is = list_any (λ i. holds i v) is

  hold-more : (o : Option Interval) (b : Bool) (is : List Interval) → b ≡ hold is → (is_within v o || b) ≡ hold (cons_option o is)
  unfolding hold
  hold-more None b is h = h
  hold-more (Some i) b is h = ap (λ c. holds i v || c) h

  one-list : (at : ℕ → Reason) (first : ℕ) (rs : List (List Held)) → some_applies (requirement_rows at v first rs) ≡ hold (filter_map interval_of rs)
  unfolding hold
  one-list at first [] = refl
  one-list at first (r ∷ rs) = hold-more (interval_of r) _ (filter_map interval_of rs) (one-list at (first + 1) rs)

  both-lists : (patched unaffected : List (List Held))
      → some_applies (requirement_rows (held_by true) v 0 patched ++ requirement_rows (held_by false) v 0 unaffected)
      ≡ hold (filter_map interval_of (patched ++ unaffected))
  unfolding hold
  both-lists patched unaffected =
      list_any-append (λ row. row.1) (requirement_rows (held_by true) v 0 patched) (requirement_rows (held_by false) v 0 unaffected)
      ∙ ((λ i. one-list (held_by true) 0 patched i || one-list (held_by false) 0 unaffected i)
      ∙ (sym (list_any-append (λ i. holds i v) (filter_map interval_of patched) (filter_map interval_of unaffected))
      ∙ ap hold (sym (filter_map-append interval_of patched unaffected))))

not-not : (b : Bool) → b ≡ not (not b)
not-not true = refl
not-not false = refl

versions-hold : (a : Advisory) (p : PackageValue) → some_applies (version_rows a p) ≡ not (affected a.versions p.version)
unfolding affected hold
versions-hold a p = both-lists p.version a.versions.patched a.versions.unaffected ∙ not-not _

-- ---- the other rows

-- no source, or one that is not the default registry: the package is not audited
source-rows : (o : Option Source) (rest : Bool) → (not (is_some o) || (is_elsewhere o || rest)) ≡ (not (is_default_there o) || rest)
source-rows None rest = refl
source-rows (Some s) rest = refl

-- whether an informational kind gives a warning that is asked for
gives : Settings → Option Informational → Bool
gives s o = is_some (option_and_then (wanted_kind s) o)

kind-row : (is_asked : Bool) (o : Option WarningKind) (rest : Bool)
    → (not is_asked || (not (is_some o) || rest)) ≡ (not (is_some (if is_asked then o else None)) || rest)
kind-row true o rest = refl
kind-row false o rest = refl

kind-rows : (s : Settings) (o : Option Informational) (rest : Bool)
    → (fails (is_wanted s) o || (fails warns o || rest)) ≡ ((is_some o && not (gives s o)) || rest)
unfolding gives
kind-rows s None rest = refl
kind-rows s (Some kind) rest = kind-row (is_wanted s kind) (kind_of_warnings kind) rest

-- ---- all rows

-- the tests of a pair: whether the package is audited, six tests that a vulnerability and a warning pass, whether the
-- advisory is withdrawn, informational, gives a warning that is asked for, and is ignored
all-tests : (audited collection name version source severe arch os withdrawn informational gives ignored : Bool)
    → (not audited || (not collection || (not name || (not version || (not source || (not severe || (not arch || (not os
    || (withdrawn || ((informational && not gives) || (ignored || false)))))))))))
    ≡ not (((audited && (collection && name && version && source && severe && arch && os && true && beq false withdrawn && beq false informational)) && not ignored)
    || ((audited && (collection && name && version && source && severe && arch && os && true && beq false withdrawn && beq true informational)) && (not ignored && gives)))
all-tests false c n v o s a y w i g x = refl
all-tests true false n v o s a y w i g x = refl
all-tests true true false v o s a y w i g x = refl
all-tests true true true false o s a y w i g x = refl
all-tests true true true true false s a y w i g x = refl
all-tests true true true true true false a y w i g x = refl
all-tests true true true true true true false y w i g x = refl
all-tests true true true true true true true false w i g x = refl
all-tests true true true true true true true true true i g x = refl
all-tests true true true true true true true true false false g true = refl
all-tests true true true true true true true true false false g false = refl
all-tests true true true true true true true true false true true true = refl
all-tests true true true true true true true true false true true false = refl
all-tests true true true true true true true true false true false true = refl
all-tests true true true true true true true true false true false false = refl

some-row : (s : Settings) (a : Advisory) (p : PackageValue) → some_applies (rows s a p) ≡ not (is_finding s a p)
unfolding selects gives
some-row s a p =
    let q = query_for s p in
    let standing = some_applies (standing_rows s a) in
    let limits = some_applies (limit_rows s a p ++ standing_rows s a) in
    let first = λ (rest : Bool). not (in_collection q a) || (not (has_name q a) || rest) in
    let versions = list_any-append (λ row. row.1) (version_rows a p) (limit_rows s a p ++ standing_rows s a) ∙ ap (λ b. b || limits) (versions-hold a p) in
    let kinds = kind-rows s a.metadata.informational (is_ignored s a || false) in
    let last = λ (rest : Bool). not (has_source q a) || (not (is_severe q a) || (not (on_arch q a) || (not (on_os q a) || (is_some a.metadata.withdrawn || rest)))) in
    source-rows p.source (first (some_applies (version_rows a p ++ (limit_rows s a p ++ standing_rows s a))))
    ∙ (ap (λ b. not (is_default_there p.source) || first b) versions
    ∙ (ap (λ b. not (is_default_there p.source) || first (not (affected a.versions p.version) || last b)) kinds
    ∙ all-tests (is_default_there p.source) (in_collection q a) (has_name q a) (affected a.versions p.version) (has_source q a) (is_severe q a)
    (on_arch q a) (on_os q a) (is_some a.metadata.withdrawn) (is_some a.metadata.informational) (gives s a.metadata.informational) (is_ignored s a)))

pub complete : (s : Settings) (a : Advisory) (p : PackageValue) → (reasons_of s a p ≡ []) ↔ (is_finding s a p ≡ true)
unfolding reasons_of
complete s a p = (
  λ h. not-false (is_finding s a p) (sym (some-row s a p) ∙ none-apply (rows s a p) h),
  λ h. no-reasons (rows s a p) (some-row s a p ∙ ap not h),
)
