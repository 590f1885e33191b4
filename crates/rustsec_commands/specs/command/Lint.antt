-- What the command `lint` writes for the file at a path.
use Rattle.std.specs.Prelude.{◌≡◌, ◌≢◌, ◌++◌, ◌==◌, ℕ, List, codes, flat_map, length, if◌then◌else◌}
use Rattle.rustsec_files.specs.Allowed.{Allowed}
use Rattle.rustsec_advisory.specs.FileRefusals.{AreLintsAt, IsLintRefusal}
use Rattle.rustsec_advisory.specs.LintErrors.{LintError, lint_error_text}
use Rattle.rustsec_advisory.specs.declared.advisory.Advisory.{Advisory}
use Rattle.rustsec_commands.specs.Output.{Output, refused_as}
use Rattle.rustsec_values.specs.Failure.{Failure}
use Rattle.rustsec_values.specs.declared.error.ErrorKind.TheVariants as kind

-- the line for a lint error
abbrev pub error_line : LintError → List ℕ
error_line f = lint_error_text f ++ codes "\n"

-- the output for an advisory with these lint errors: a line for each; status 0 if it has none, else 1
abbrev pub errors_output : List LintError → Output
errors_output fs = record { text = flat_map error_line fs; status = if length fs == 0 then 0 else 1 }

-- an output for the file at a path: the lint errors of the advisory that may be read there; or the kind of a refusal, which
-- is not out of memory
pub data IsLintOutput (allowed : Allowed) (path : List ℕ) (o : Output) : Type 0 where
  linted : (a : Advisory) (fs : List LintError) → AreLintsAt allowed path a fs → o ≡ errors_output fs → IsLintOutput allowed path o
  refused : (e : Failure) → IsLintRefusal allowed path e → e.kind ≢ kind.OutOfMemory → o ≡ refused_as e.kind → IsLintOutput allowed path o
