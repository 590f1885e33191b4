-- The remarks on one file: a function of its path and its text.
use Rattle.std.specs.Prelude.{◌≡◌, ℕ, ◌++◌, ◌∷◌, [], List, Option, None, Some, codes, if◌then◌else◌, map}
use Rattle.rustsec_files.specs.Paths.{is_draft}
use Rattle.rustsec_files.specs.Allowed.{Allowed}
use Rattle.rustsec_values.specs.Failure.{kind_text}
use Rattle.rustsec_values.specs.declared.error.ErrorKind.{ErrorKind}
use Rattle.rustsec_values.specs.declared.error.ErrorKind.TheVariants as failure
use Rattle.rustsec_texts.specs.Ids.{IdValue, is_placeholder}
use Rattle.rustsec_advisory.specs.Advisory.{IsAdvisory}
use Rattle.rustsec_advisory.specs.LintErrors.{LintError, lint_error_text}
use Rattle.rustsec_advisory.specs.Lints.{Lints}
use Rattle.rustsec_advisory.specs.declared.advisory.Advisory.{Advisory}
use Rattle.rustsec_lint_database.specs.Placement.{placement_remarks}
use Rattle.rustsec_lint_database.specs.Remarks.{remark}
use Rattle.rustsec_lint_database.specs.Upstream.{upstream_remarks}
use Rattle.rustsec_lint_database.specs.declared.file.FileLint.{FileLint}
use Rattle.rustsec_lint_database.specs.declared.remark.Remark.{Remark}
use Rattle.rustsec_lint_database.specs.declared.remark.RemarkKind.TheVariants as kind

-- a lint error as a remark
abbrev pub lint_remark : LintError → Remark
lint_remark e = remark kind.Lint (lint_error_text e)

-- the ID of an advisory, unless it is the placeholder
abbrev pub own_id : Advisory → Option IdValue
own_id a = if is_placeholder a.metadata.id.text then None else Some a.metadata.id

-- the remarks on the file of an advisory with this path and these lint errors
abbrev pub remarks_with : List ℕ → Advisory → List LintError → List Remark
remarks_with path a errors = map lint_remark errors ++ (placement_remarks path a ++ upstream_remarks a)

-- the file of an advisory with its remarks
abbrev pub of_advisory : List ℕ → Advisory → List LintError → FileLint
of_advisory path a errors = record { path = path; id = own_id a; remarks = remarks_with path a errors }

-- the remarks on a file that is refused
abbrev pub of_refusal : List ℕ → ErrorKind → FileLint
of_refusal path k = record { path = path; id = None; remarks = remark kind.Refused (codes "refused: " ++ kind_text k) ∷ [] }

-- the remarks on a text at a path: those on its advisory, or that it is not one
pub data IsLintOf (path text : List ℕ) (f : FileLint) : Type 0 where
  linted : (a : Advisory) (errors : List LintError) → Lints text (Some (is_draft path)) a errors → f ≡ of_advisory path a errors → IsLintOf path text f
  refused : ((a : Advisory) → ¬ IsAdvisory text a) → f ≡ of_refusal path failure.Parse → IsLintOf path text f

-- the remarks on the file at a path: that of a text that may be read there, or that it cannot be read
pub data IsLintAt (allowed : Allowed) (path : List ℕ) (f : FileLint) : Type 0 where
  of_text : (text : List ℕ) → allowed.reads path (Some text) → IsLintOf path text f → IsLintAt allowed path f
  unread : allowed.reads path None → f ≡ of_refusal path failure.Io → IsLintAt allowed path f
