-- Which advisories a query selects: ten tests, it must pass all.
use Rattle.std.specs.Prelude.{◌&&◌, ◌||◌, ◌==◌, not, ℕ, Bool, true, List, Option, Some, None, is_some, length, nat_eq, option_and_then, unwrap_or}
use Rattle.std.specs.Bool.{beq}
use Rattle.std.specs.Cmp.Lexicographic.{pointwise}
use Rattle.std.specs.List.{list_any}
use Rattle.std.specs.Option.{option_eq}
use Rattle.std.specs.Ordering.{is_lt}
use denote.Enum.Bare.{sameb}
use Rattle.rustsec_versions.specs.acceptance.Lists.{affected}
use Rattle.rustsec_lock.specs.Cvss.{cvss_severity}
use Rattle.rustsec_lock.specs.Score.{severity_cmp}
use Rattle.rustsec_lock.specs.Source.{Source, default_source, url_of}
use Rattle.rustsec_lock.specs.contracts.platforms.Arch.{the_type as arch}
use Rattle.rustsec_lock.specs.contracts.platforms.OS.{the_type as os}
use Rattle.rustsec_lock.specs.contracts.source.SourceKind.{the_type as source_kind}
use Rattle.rustsec_lock.specs.declared.platforms.Arch.{Arch}
use Rattle.rustsec_lock.specs.declared.platforms.OS.{OS}
use Rattle.rustsec_lock.specs.declared.severity.Severity.{Severity}
use Rattle.rustsec_lock.specs.declared.source.SourceKind.{SourceKind}
use Rattle.rustsec_texts.specs.contracts.collection.Collection.{the_type as collection}
use Rattle.rustsec_advisory.specs.declared.advisory.Advisory.{Advisory}
use Rattle.rustsec_advisory.specs.declared.affected.Affected.{Affected}
use Rattle.rustsec_database.specs.Query.{Asked}

-- a test of a value that may be missing; it holds if the value is missing
abbrev pub if_there : {A : Type 0} → (A → Bool) → Option A → Bool
if_there test None = true
if_there test (Some x) = test x

-- the source of an advisory: the default one if it names none
abbrev pub source_of : Advisory → Source
source_of a = unwrap_or a.metadata.source default_source

-- whether a source is of this kind, at this address
abbrev pub is_place : SourceKind → List ℕ → Source → Bool
is_place kind url s = sameb source_kind s.kind kind && pointwise nat_eq (url_of s) url

-- the severity of an advisory, by its CVSS vector, if that is one of version 3
abbrev pub severity_of : Advisory → Option Severity
severity_of a = option_and_then cvss_severity a.metadata.cvss

-- some asked architecture is listed, or either list is empty
abbrev pub shares_arch : List Arch → List Arch → Bool
shares_arch asked listed = length asked == 0 || (length listed == 0 || list_any (λ x. list_any (sameb arch x) listed) asked)

-- some asked system is listed, or either list is empty
abbrev pub shares_os : List OS → List OS → Bool
shares_os asked listed = length asked == 0 || (length listed == 0 || list_any (λ x. list_any (sameb os x) listed) asked)

-- ---- the ten tests

-- the collection is the asked one
abbrev pub in_collection : Asked → Advisory → Bool
in_collection q a = if_there (λ c. option_eq (sameb collection) (Some c) a.metadata.collection) q.collection

-- the package has the asked name
abbrev pub has_name : Asked → Advisory → Bool
has_name q a = if_there (λ n. pointwise nat_eq n a.metadata.«package») q.package_name

-- the asked version is affected
abbrev pub has_version : Asked → Advisory → Bool
has_version q a = if_there (λ v. affected a.versions v) q.package_version

-- the package comes from the asked source
abbrev pub has_source : Asked → Advisory → Bool
has_source q a = if_there (λ s. is_place s.kind (url_of s) (source_of a)) q.package_source

-- the severity is not below the asked one; an advisory without a severity is kept
abbrev pub is_severe : Asked → Advisory → Bool
is_severe q a = if_there (λ least. if_there (λ s. not (is_lt (severity_cmp s least))) (severity_of a)) q.severity

-- an asked architecture is affected
abbrev pub on_arch : Asked → Advisory → Bool
on_arch q a = if_there (λ (f : Affected). shares_arch q.target_arch f.arch) a.affected

-- an asked system is affected
abbrev pub on_os : Asked → Advisory → Bool
on_os q a = if_there (λ (f : Affected). shares_os q.target_os f.os) a.affected

-- the ID is of the asked year, or without a year
abbrev pub of_year : Asked → Advisory → Bool
of_year q a = if_there (λ y. if_there (λ x. y == x) a.metadata.id.year) q.year

-- it is withdrawn, or not, as asked
abbrev pub as_withdrawn : Asked → Advisory → Bool
as_withdrawn q a = if_there (λ w. beq w (is_some a.metadata.withdrawn)) q.withdrawn

-- it is informational, or not, as asked
abbrev pub as_informational : Asked → Advisory → Bool
as_informational q a = if_there (λ i. beq i (is_some a.metadata.informational)) q.informational

-- a query selects an advisory if all ten hold
unfoldable pub selects : Asked → Advisory → Bool
selects q a =
    in_collection q a
    && has_name q a
    && has_version q a
    && has_source q a
    && is_severe q a
    && on_arch q a
    && on_os q a
    && of_year q a
    && as_withdrawn q a
    && as_informational q a
