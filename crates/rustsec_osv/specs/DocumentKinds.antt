-- The kinds of references (OSV schema, `references[].type`).
use Rattle.std.specs.Prelude.{ℕ, List, [], ◌∷◌, codes, Option}
use Rattle.rustsec_values.specs.ClosedTables.{from_name}
use Rattle.rustsec_osv.specs.declared.reference.OsvReferenceKind.{OsvReferenceKind}
use Rattle.rustsec_osv.specs.declared.reference.OsvReferenceKind.TheVariants as kind

-- the word of a kind
abbrev pub reference_kind_name : OsvReferenceKind → List ℕ
reference_kind_name kind.ADVISORY = codes "ADVISORY"
reference_kind_name kind.ARTICLE = codes "ARTICLE"
reference_kind_name kind.REPORT = codes "REPORT"
reference_kind_name kind.FIX = codes "FIX"
reference_kind_name kind.PACKAGE = codes "PACKAGE"
reference_kind_name kind.WEB = codes "WEB"

-- all kinds
abbrev pub reference_kinds : List OsvReferenceKind
reference_kinds = kind.ADVISORY ∷ kind.ARTICLE ∷ kind.REPORT ∷ kind.FIX ∷ kind.PACKAGE ∷ kind.WEB ∷ []

-- the kind of a word, if it is the word of one
abbrev pub reference_kind_of : List ℕ → Option OsvReferenceKind
reference_kind_of = from_name reference_kind_name reference_kinds
