use Rattle.std.proofs.Common.{◌≡◌, ◌++◌, map, take}
use Rattle.rustsec_lint_database.specs.Files.{lint_remark}
use Rattle.rustsec_lint_database.proofs.file.push_lints.Given as goal

-- the remarks so far are after those that were there
abbrev pub invariant-loop-error : goal.invariant-loop-error
invariant-loop-error l = l.remarks ≡ l.fn.remarks ++ map lint_remark (take l.error-index l.errors)
