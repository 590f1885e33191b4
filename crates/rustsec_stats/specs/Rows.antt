-- The rows of the tables of collections, kinds, severities and withdrawals: the name of each, and which advisories it counts.
use Rattle.std.specs.Prelude.{ℕ, Bool, false, not, List, [], ◌∷◌, Option, Some, codes, is_none, is_some, option_and_then}
use Rattle.std.specs.Option.{option_eq, option_map_or}
use denote.Enum.Bare.{sameb}
use Rattle.rustsec_lock.specs.Cvss.{cvss_severity}
use Rattle.rustsec_lock.specs.contracts.severity.Severity.{the_type as severity_type}
use Rattle.rustsec_lock.specs.declared.severity.Severity.{Severity}
use Rattle.rustsec_lock.specs.declared.severity.Severity.TheVariants as severity
use Rattle.rustsec_texts.specs.Informational.{is_other_kind, kind_of_warnings}
use Rattle.rustsec_texts.specs.contracts.collection.Collection.{the_type as collection_type}
use Rattle.rustsec_texts.specs.contracts.warning_kind.WarningKind.{the_type as warning_type}
use Rattle.rustsec_texts.specs.declared.collection.Collection.{Collection}
use Rattle.rustsec_texts.specs.declared.collection.Collection.TheVariants as collection
use Rattle.rustsec_texts.specs.declared.warning_kind.WarningKind.{WarningKind}
use Rattle.rustsec_texts.specs.declared.warning_kind.WarningKind.TheVariants as warning
use Rattle.rustsec_advisory.specs.declared.advisory.Advisory.{Advisory}
use Rattle.rustsec_stats.specs.declared.rows.CollectionRow.{CollectionRow}
use Rattle.rustsec_stats.specs.declared.rows.CollectionRow.TheVariants as of_collection
use Rattle.rustsec_stats.specs.declared.rows.KindRow.{KindRow}
use Rattle.rustsec_stats.specs.declared.rows.KindRow.TheVariants as of_kind
use Rattle.rustsec_stats.specs.declared.rows.WithdrawalRow.{WithdrawalRow}
use Rattle.rustsec_stats.specs.declared.rows.WithdrawalRow.TheVariants as of_withdrawal
use Rattle.rustsec_stats.specs.declared.severities.SeverityRow.{SeverityRow}
use Rattle.rustsec_stats.specs.declared.severities.SeverityRow.TheVariants as of_severity

-- ---- collections

abbrev pub collection_row_name : CollectionRow → List ℕ
collection_row_name of_collection.Crates = codes "crates"
collection_row_name of_collection.Rust = codes "rust"
collection_row_name of_collection.Missing = codes "no-collection"

abbrev pub collection_rows : List CollectionRow
collection_rows = of_collection.Crates ∷ of_collection.Rust ∷ of_collection.Missing ∷ []

-- whether an advisory names a collection
abbrev pub names : Collection → Advisory → Bool
names c a = option_eq (sameb collection_type) (Some c) a.metadata.collection

abbrev pub is_counted_in : CollectionRow → Advisory → Bool
is_counted_in of_collection.Crates a = names collection.Crates a
is_counted_in of_collection.Rust a = names collection.Rust a
is_counted_in of_collection.Missing a = is_none a.metadata.collection

-- ---- kinds

abbrev pub kind_row_name : KindRow → List ℕ
kind_row_name of_kind.Vulnerability = codes "vulnerability"
kind_row_name of_kind.Notice = codes "notice"
kind_row_name of_kind.Unmaintained = codes "unmaintained"
kind_row_name of_kind.Unsound = codes "unsound"
kind_row_name of_kind.Other = codes "other"

abbrev pub kind_rows : List KindRow
kind_rows = of_kind.Vulnerability ∷ of_kind.Notice ∷ of_kind.Unmaintained ∷ of_kind.Unsound ∷ of_kind.Other ∷ []

-- the kind of the warnings that an advisory gives, if it is informational
abbrev pub warning_kind : Advisory → Option WarningKind
warning_kind a = option_and_then kind_of_warnings a.metadata.informational

abbrev pub warns : WarningKind → Advisory → Bool
warns k a = option_eq (sameb warning_type) (Some k) (warning_kind a)

-- whether an advisory is informational, of a kind without warnings
abbrev pub has_other_kind : Advisory → Bool
has_other_kind a = option_map_or is_other_kind a.metadata.informational false

-- an advisory that is not informational is a vulnerability
abbrev pub is_of_kind : KindRow → Advisory → Bool
is_of_kind of_kind.Vulnerability a = is_none a.metadata.informational
is_of_kind of_kind.Notice a = warns warning.Notice a
is_of_kind of_kind.Unmaintained a = warns warning.Unmaintained a
is_of_kind of_kind.Unsound a = warns warning.Unsound a
is_of_kind of_kind.Other a = has_other_kind a

-- ---- severities

abbrev pub severity_row_name : SeverityRow → List ℕ
severity_row_name of_severity.None = codes "none"
severity_row_name of_severity.Low = codes "low"
severity_row_name of_severity.Medium = codes "medium"
severity_row_name of_severity.High = codes "high"
severity_row_name of_severity.Critical = codes "critical"
severity_row_name of_severity.NoScore = codes "no-score"

abbrev pub severity_rows : List SeverityRow
severity_rows = of_severity.None ∷ of_severity.Low ∷ of_severity.Medium ∷ of_severity.High ∷ of_severity.Critical ∷ of_severity.NoScore ∷ []

-- the severity of an advisory, by its CVSS vector, if that is one of version 3
abbrev pub severity_of : Advisory → Option Severity
severity_of a = option_and_then cvss_severity a.metadata.cvss

abbrev pub is_rated : Severity → Advisory → Bool
is_rated s a = option_eq (sameb severity_type) (Some s) (severity_of a)

abbrev pub has_severity : SeverityRow → Advisory → Bool
has_severity of_severity.None a = is_rated severity.None a
has_severity of_severity.Low a = is_rated severity.Low a
has_severity of_severity.Medium a = is_rated severity.Medium a
has_severity of_severity.High a = is_rated severity.High a
has_severity of_severity.Critical a = is_rated severity.Critical a
has_severity of_severity.NoScore a = is_none (severity_of a)

-- ---- withdrawals

abbrev pub withdrawal_row_name : WithdrawalRow → List ℕ
withdrawal_row_name of_withdrawal.Withdrawn = codes "withdrawn"
withdrawal_row_name of_withdrawal.Current = codes "current"

abbrev pub withdrawal_rows : List WithdrawalRow
withdrawal_rows = of_withdrawal.Withdrawn ∷ of_withdrawal.Current ∷ []

abbrev pub is_withdrawal : WithdrawalRow → Advisory → Bool
is_withdrawal of_withdrawal.Withdrawn a = is_some a.metadata.withdrawn
is_withdrawal of_withdrawal.Current a = not (is_some a.metadata.withdrawn)
