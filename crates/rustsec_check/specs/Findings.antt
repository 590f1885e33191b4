-- The findings of a check: what is known about each pair.
use Rattle.std.specs.Prelude.{◌≡◌, ◌&&◌, not, Bool, true, false, List, Option, Some, None, map, nat_eq}
use Rattle.std.specs.Cmp.Lexicographic.{pointwise}
use Rattle.std.specs.List.{All, list_any}
use Rattle.std.specs.Option.{option_eq}
use denote.Enum.Bare.{sameb}
use Rattle.rustsec_versions.specs.Equality.{version_eq}
use Rattle.rustsec_versions.specs.order.Precedence.{IsVersion}
use Rattle.rustsec_lock.specs.Package.{PackageValue}
use Rattle.rustsec_lock.specs.SourceOrder.{source_eq}
use Rattle.rustsec_graph.specs.Edges.{dependents}
use Rattle.rustsec_graph.specs.Paths.{IsAnswer}
use Rattle.rustsec_texts.specs.contracts.warning_kind.WarningKind.{the_type as warning_kind}
use Rattle.rustsec_texts.specs.declared.warning_kind.WarningKind.{WarningKind}
use Rattle.rustsec_texts.specs.declared.warning_kind.WarningKind.TheVariants as warning
use Rattle.rustsec_policy.specs.declared.choices.Denied.{Denied}
use Rattle.rustsec_policy.specs.declared.choices.Denied.TheVariants as denied
use Rattle.rustsec_advisory.specs.declared.advisory.Advisory.{Advisory}
use Rattle.rustsec_check.specs.Pairs.{counted, found}
use Rattle.rustsec_check.specs.Updates.{IsUpdateBy, UpdateValue, counting}
use Rattle.rustsec_check.specs.Values.{FindingValue, Found, SubjectValue}

-- ---- what fails

-- whether a word denies the warnings of a kind
abbrev pub denies : WarningKind → Denied → Bool
denies k denied.Warnings = true
denies k denied.Unmaintained = sameb warning_kind k warning.Unmaintained
denies k denied.Unsound = sameb warning_kind k warning.Unsound
denies k denied.Yanked = sameb warning_kind k warning.Yanked

-- a vulnerability is denied always, and a warning if some word denies its kind
abbrev pub is_denied : List Denied → Option WarningKind → Bool
is_denied words None = true
is_denied words (Some k) = list_any (denies k) words

-- whether two packages have the same name, version and source
abbrev pub is_same : PackageValue → PackageValue → Bool
is_same p q = pointwise nat_eq p.name q.name && (version_eq p.version q.version && option_eq source_eq p.source q.source)

-- whether an older lockfile, if any, has the package
abbrev pub is_old : Option (List PackageValue) → PackageValue → Bool
is_old None p = false
is_old (Some packages) p = list_any (is_same p) packages

-- ---- findings

-- how a finding of a subject can be mended
abbrev pub IsUpdate : SubjectValue → PackageValue → Advisory → UpdateValue → Type 0
IsUpdate s p a u = IsUpdateBy s.settings.ignore (counting s.advisories p) p a u

-- what is known about a pair; each package of a lockfile that was read has a valid version
pub record IsFinding (s : SubjectValue) (f : FindingValue) : Type 0 where
  pub is_denied : f.is_denied ≡ is_denied s.denied f.kind
  pub is_old : f.is_old ≡ is_old s.baseline f.«package»
  pub path : IsAnswer s.graph.edges s.graph.roots f.place f.path
  pub dependents : f.dependents ≡ dependents s.graph.edges f.place
  pub update : IsVersion f.«package».version → IsUpdate s f.«package» f.advisory f.update

-- the pair of a finding
abbrev pub pair_of : FindingValue → Found
pair_of f = record { kind = f.kind; advisory = f.advisory; «package» = f.«package»; place = f.place }

-- the findings of some pairs: of those whose advisory is not ignored, in their order
pub record AreFindingsOf (s : SubjectValue) (of : List Found) (findings : List FindingValue) : Type 0 where
  pub pairs : map pair_of findings ≡ counted s.settings.ignore of
  pub each : All (IsFinding s) findings

-- the findings of a subject: package by package in the lockfile's order, of each the vulnerabilities and then the
-- warnings, in the database's order
abbrev pub AreFindings : SubjectValue → List FindingValue → Type 0
AreFindings s findings = AreFindingsOf s (found s.advisories s.packages s.settings) findings

-- whether some finding is denied and not old
abbrev pub fails : List FindingValue → Bool
fails findings = list_any (λ (f : FindingValue). f.is_denied && not f.is_old) findings
