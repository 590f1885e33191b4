use Rattle.std.proofs.Common.{◌+◌, ◌≤◌, ◌∷◌, [], ap, arith, length, rules}
use Rattle.rustsec_lint_database.specs.Counts.{faults, notes}
use Rattle.rustsec_lint_database.proofs.CountLaws.{all_counted}
use Rattle.rustsec_lint_database.proofs.counts.Counts.add.Goals as goal

pub returns-in_err-add_remarks-clause-err : goal.returns-in_err-add_remarks-clause-err
returns-in_err-add_remarks-clause-err c =
    let now = c.args.entry.now in
    let all = all_counted c.args.upstream now in
    let same = ap length c.as_slice.ensures in
    let error = c.in_err-add_remarks.ensures.err in
    let large : 18446744073709551616 ≤ c.args.self.now.faults + c.args.self.now.notes + (faults c.args.upstream (now ∷ []) + notes c.args.upstream (now ∷ [])) =
    omega (arith, all, same, error) in
    search (rules, large)
