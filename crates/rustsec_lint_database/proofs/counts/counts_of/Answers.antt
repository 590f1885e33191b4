use Rattle.std.proofs.Common.{◌+◌, ◌≤◌, arith, rules}
use Rattle.rustsec_lint_database.specs.Counts.{faults, notes}
use Rattle.rustsec_lint_database.proofs.CountLaws.{at_most_all}
use Rattle.rustsec_lint_database.proofs.counts.counts_of.Goals as goal

pub returns-in_err-add-clause-err : goal.returns-in_err-add-clause-err
returns-in_err-add-clause-err c =
    let es = c.args.entries.now in
    let most = at_most_all c.args.upstream es c.loop-entry.entry-index c.entry-item.result c.loop-entry-test.true in
    let f = c.loop-entry.invariant.faults in
    let n = c.loop-entry.invariant.notes in
    let error = c.in_err-add.ensures.err in
    let large : 18446744073709551616 ≤ faults c.args.upstream es + notes c.args.upstream es = grind (arith, most, f, n, error, c.entry-item.is) in
    search (rules, large)
