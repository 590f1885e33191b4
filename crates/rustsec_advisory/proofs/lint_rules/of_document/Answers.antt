use Rattle.std.proofs.Common.{◌≡◌, [], rules}
use Rattle.rustsec_advisory.specs.LintErrors.{top_rows}
use Rattle.rustsec_advisory.proofs.KeyOrder.{keys-rise, sections-all, sections-end}
use Rattle.rustsec_advisory.proofs.Members.{walk-end}
use Rattle.rustsec_advisory.proofs.lint_rules.of_document.Goals as goal

pub returns-clause-ok : goal.returns-clause-ok
returns-clause-ok c =
    let none : c.loop-key.key-iterator ≡ [] = search rules in
    walk-end (top_rows c.args.draft c.args.advisory.now) c.loop-key.errors [] c.loop-key.key-iterator c.args.document.now.entries none c.loop-key.invariant.0

pub returns-clause-ordered : goal.returns-clause-ordered
returns-clause-ordered c =
    let none : c.loop-key.key-iterator ≡ [] = search rules in
    let all = c.args.document.now.entries in
    (keys-rise all c.into_iter-key-iterator.ensures.into_iter_gives.5, sections-end c.loop-key.key-iterator all none c.loop-key.invariant.1)

pub loop-key-init : goal.loop-key-init
loop-key-init c =
    let all = c.into_iter-key-iterator.ensures.into_iter_gives.0 in
    (search rules, rw all (sections-all c.args.document.now.entries))
