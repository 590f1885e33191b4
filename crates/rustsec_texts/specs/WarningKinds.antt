-- The kinds of warnings.
use Rattle.std.specs.Prelude.{ℕ, List, [], ◌∷◌, codes, Option}
use Rattle.std.specs.Ordering.{nat_cmp, on}
use Rattle.std.specs.declared.cmp.Ordering.{Ordering}
use Rattle.rustsec_texts.specs.declared.warning_kind.WarningKind.{WarningKind}
use Rattle.rustsec_texts.specs.declared.warning_kind.WarningKind.TheVariants as warning
use Rattle.rustsec_values.specs.ClosedTables.{from_name}

-- the text of a kind
abbrev pub warning_kind_name : WarningKind → List ℕ
warning_kind_name warning.Notice = codes "notice"
warning_kind_name warning.Unmaintained = codes "unmaintained"
warning_kind_name warning.Unsound = codes "unsound"
warning_kind_name warning.Yanked = codes "yanked"

-- all kinds, in their order
abbrev pub warning_kinds : List WarningKind
warning_kinds = warning.Notice ∷ warning.Unmaintained ∷ warning.Unsound ∷ warning.Yanked ∷ []

-- the kind of a text, if it is the text of one
abbrev pub warning_kind_of : List ℕ → Option WarningKind
warning_kind_of = from_name warning_kind_name warning_kinds

-- the place of a kind in the order
abbrev pub warning_kind_place : WarningKind → ℕ
warning_kind_place warning.Notice = 0
warning_kind_place warning.Unmaintained = 1
warning_kind_place warning.Unsound = 2
warning_kind_place warning.Yanked = 3

abbrev pub warning_kind_cmp : WarningKind → WarningKind → Ordering
warning_kind_cmp = on warning_kind_place nat_cmp
