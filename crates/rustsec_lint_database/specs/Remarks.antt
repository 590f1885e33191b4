-- Remarks on one file of a database.
use Rattle.std.specs.Prelude.{ℕ, Bool, true, List, [], ◌∷◌, codes, if◌then◌else◌}
use Rattle.rustsec_lint_database.specs.declared.remark.Remark.{Remark}
use Rattle.rustsec_lint_database.specs.declared.remark.RemarkKind.{RemarkKind}
use Rattle.rustsec_lint_database.specs.declared.remark.RemarkKind.TheVariants as kind

-- the name of a kind
abbrev pub kind_name : RemarkKind → List ℕ
kind_name kind.Refused = codes "refused"
kind_name kind.Lint = codes "lint"
kind_name kind.Misplaced = codes "misplaced"
kind_name kind.Upstream = codes "upstream"

-- whether a remark of a kind is a fault: what the Rust crate refuses is one only on request
abbrev pub is_fault : Bool → RemarkKind → Bool
is_fault upstream kind.Refused = true
is_fault upstream kind.Lint = true
is_fault upstream kind.Misplaced = true
is_fault upstream kind.Upstream = upstream

-- a remark of a kind with these words
abbrev pub remark : RemarkKind → List ℕ → Remark
remark k words = record { kind = k; text = words }

-- a remark, unless a test holds
abbrev pub unless : Bool → RemarkKind → List ℕ → List Remark
unless holds k words = if holds then [] else remark k words ∷ []
