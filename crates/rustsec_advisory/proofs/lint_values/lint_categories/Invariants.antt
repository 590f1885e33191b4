use Rattle.std.proofs.Common.{◌≡◌, ◌++◌, take}
use Rattle.std.specs.List.{flat_map}
use Rattle.rustsec_advisory.specs.LintErrors.{category_row}
use Rattle.rustsec_advisory.proofs.lint_values.lint_categories.Given as goal

abbrev pub invariant-loop-category : goal.invariant-loop-category
invariant-loop-category l = l.errors ≡ l.fn.errors ++ flat_map category_row (take l.category-index l.categories)
