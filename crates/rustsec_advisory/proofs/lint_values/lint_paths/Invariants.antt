use Rattle.std.proofs.Common.{◌≡◌, ◌++◌}
use Rattle.std.specs.List.{flat_map}
use Rattle.std.specs.Map.{keys_of}
use Rattle.rustsec_advisory.specs.LintErrors.{function_row}
use Rattle.rustsec_advisory.proofs.lint_values.lint_paths.Given as goal

abbrev pub invariant-loop-path : goal.invariant-loop-path
invariant-loop-path l = l.errors ++ flat_map (function_row l.name) (keys_of l.path-iterator) ≡ l.fn.errors ++ flat_map (function_row l.name) (keys_of l.functions)
