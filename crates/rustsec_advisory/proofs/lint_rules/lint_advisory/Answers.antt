use Rattle.std.proofs.Common.{◌≡◌, [], rules}
use Rattle.rustsec_advisory.specs.LintErrors.{advisory_rows}
use Rattle.rustsec_advisory.proofs.KeyOrder.{keys-rise}
use Rattle.rustsec_advisory.proofs.Members.{walk-end}
use Rattle.rustsec_advisory.proofs.lint_rules.lint_advisory.Goals as goal

pub returns-clause-ok : goal.returns-clause-ok
returns-clause-ok c =
    let none : c.loop-key.key-iterator ≡ [] = search rules in
    walk-end (advisory_rows c.args.linted.draft c.args.linted.advisory.now.metadata) c.loop-key.errors c.args.errors.now c.loop-key.key-iterator c.args.table.now.entries none c.loop-key.invariant

pub returns-clause-ordered : goal.returns-clause-ordered
returns-clause-ordered c = keys-rise c.args.table.now.entries c.into_iter-key-iterator.ensures.into_iter_gives.5
