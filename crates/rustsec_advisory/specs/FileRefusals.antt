-- The advisory of the file at a path, and how such a file is refused.
use Rattle.std.specs.Prelude.{◌≡◌, ◌⊎◌, ℕ, List, None, Some, false, true}
use Rattle.rustsec_advisory.specs.Advisory.{IsAdvisory}
use Rattle.rustsec_advisory.specs.LintErrors.{LintError}
use Rattle.rustsec_advisory.specs.Lints.{Lints}
use Rattle.rustsec_advisory.specs.declared.advisory.Advisory.{Advisory}
use Rattle.rustsec_files.specs.Paths.{is_draft, is_markdown}
use Rattle.rustsec_files.specs.ReadFailures.{IsReadFailure}
use Rattle.rustsec_files.specs.Allowed.{Allowed}
use Rattle.rustsec_values.specs.Failure.{Failure, IsMemory, IsRefusal}
use Rattle.rustsec_values.specs.Refusals.{of_file}
use Rattle.rustsec_values.specs.declared.error.ErrorKind.TheVariants as kind

-- the error of a file's text, as that of the file; or out of memory
abbrev pub IsOfFile : List ℕ → Failure → Type 0
IsOfFile path e = ((refusal : Failure) × (e ≡ of_file path refusal)) ⊎ IsMemory e

-- a file that cannot be read, with its path; or the error of its text, as that of the file; or out of memory
abbrev pub NamesFile : List ℕ → Failure → Type 0
NamesFile path e = IsReadFailure path e ⊎ IsOfFile path e

-- the advisory of a text that folders allow to be read at a path
abbrev pub IsAdvisoryAt : Allowed → List ℕ → Advisory → Type 0
IsAdvisoryAt allowed path a = (text : List ℕ) × (allowed.reads path (Some text) × IsAdvisory text a)

-- a text is refused: it is not an advisory's, or out of memory
abbrev pub IsTextRefusal : List ℕ → Failure → Type 0
IsTextRefusal text e = IsRefusal kind.Parse ((a : Advisory) → ¬ IsAdvisory text a) e

-- how a file is refused: it cannot be read at its path, a text that may be read there is refused, or out of memory
abbrev pub IsAdvisoryRefusal : Allowed → List ℕ → Failure → Type 0
IsAdvisoryRefusal allowed path e =
    IsRefusal kind.Io (allowed.reads path None) e ⊎ ((text : List ℕ) × (allowed.reads path (Some text) × IsTextRefusal text e))

-- ---- the linter

-- the advisory and the lint errors of a text that may be read at a Markdown file's path; it is a draft's where the path says so
abbrev pub AreLintsAt : Allowed → List ℕ → Advisory → List LintError → Type 0
AreLintsAt allowed path a errors =
    (is_markdown path ≡ true) × ((text : List ℕ) × (allowed.reads path (Some text) × Lints text (Some (is_draft path)) a errors))

-- how the linter refuses a file: the path is not a Markdown file's, or else as the file of an advisory
abbrev pub IsLintRefusal : Allowed → List ℕ → Failure → Type 0
IsLintRefusal allowed path e =
    IsRefusal kind.Parse (is_markdown path ≡ false) e ⊎ ((is_markdown path ≡ true) × IsAdvisoryRefusal allowed path e)

-- how no text is read of a file for the linter: the path is not a Markdown file's, or the file cannot be read there
abbrev pub IsNoText : Allowed → List ℕ → Failure → Type 0
IsNoText allowed path e =
    IsRefusal kind.Parse (is_markdown path ≡ false) e ⊎ ((is_markdown path ≡ true) × IsRefusal kind.Io (allowed.reads path None) e)
