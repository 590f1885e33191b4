-- The kinds of informational advisories.
use Rattle.std.specs.Prelude.{ℕ, List, [], ◌∷◌, codes, unwrap_or, Option, Some, None, Bool, true, false}
use Rattle.std.specs.Cmp.Lexicographic.{slice_cmp}
use Rattle.std.specs.Ordering.{nat_cmp, on, then_cmp}
use Rattle.std.specs.declared.cmp.Ordering.{Ordering}
use Rattle.rustsec_texts.specs.declared.informational.Informational.{Informational}
use Rattle.rustsec_texts.specs.declared.informational.Informational.TheVariants as informational
use Rattle.rustsec_texts.specs.declared.warning_kind.WarningKind.{WarningKind}
use Rattle.rustsec_texts.specs.declared.warning_kind.WarningKind.TheVariants as warning
use Rattle.rustsec_values.specs.ClosedTables.{from_name}

-- the text of an informational kind
abbrev pub informational_name : Informational → List ℕ
informational_name informational.Notice = codes "notice"
informational_name informational.Unmaintained = codes "unmaintained"
informational_name informational.Unsound = codes "unsound"
informational_name (informational.Other text) = text

-- the informational kinds with a text of their own, in their order
abbrev pub informational_kinds : List Informational
informational_kinds = informational.Notice ∷ informational.Unmaintained ∷ informational.Unsound ∷ []

-- the informational kind of a text: the one with that text, or `Other`, which keeps the text
abbrev pub informational_of : List ℕ → Informational
informational_of text = unwrap_or (from_name informational_name informational_kinds text) (informational.Other text)

-- the kind of the warnings that an informational kind gives; none for `Other`
abbrev pub kind_of_warnings : Informational → Option WarningKind
kind_of_warnings informational.Notice = Some warning.Notice
kind_of_warnings informational.Unmaintained = Some warning.Unmaintained
kind_of_warnings informational.Unsound = Some warning.Unsound
kind_of_warnings (informational.Other text) = None

-- whether it is `Other`
abbrev pub is_other_kind : Informational → Bool
is_other_kind informational.Notice = false
is_other_kind informational.Unmaintained = false
is_other_kind informational.Unsound = false
is_other_kind (informational.Other text) = true

-- the place of an informational kind in the order, `Other` last
abbrev pub informational_place : Informational → ℕ
informational_place informational.Notice = 0
informational_place informational.Unmaintained = 1
informational_place informational.Unsound = 2
informational_place (informational.Other text) = 3

-- the order of informational kinds: by place, `Other` by text
abbrev pub informational_cmp : Informational → Informational → Ordering
informational_cmp = then_cmp (on informational_place nat_cmp) (on informational_name (slice_cmp nat_cmp))
