-- The lint errors that a linter finds in a text.
use Rattle.std.specs.Prelude.{◌≡◌, ℕ, Bool, List, Option}
use Rattle.toml.specs.Data.{Members}
use Rattle.rustsec_advisory.specs.Advisory.{IsAdvisoryWith}
use Rattle.rustsec_advisory.specs.LintErrors.{LintError, lint_errors}
use Rattle.rustsec_advisory.specs.declared.advisory.Advisory.{Advisory}

-- the advisory of a text, and the lint errors of its document
pub record Lints (text : List ℕ) (draft : Option Bool) (a : Advisory) (errors : List LintError) : Type 0 where
  pub document : Members
  pub is_advisory : IsAdvisoryWith text document a
  pub errors_are : errors ≡ lint_errors draft document a
