use Rattle.std.proofs.Common.{Option, map, option_map, rules, subst, sym}
use Rattle.semver.specs.Identifiers.{parts_of}
use Rattle.semver.specs.Parse.{Parts}
use Rattle.rustsec_check.specs.LeastFree.{AreRangesOfAll, IsLeastFree}
use Rattle.rustsec_check.proofs.OneAnswer.{one-answer}
use Rattle.rustsec_check.proofs.update.least_free.Goals as goal

pub returns-clause-only : goal.returns-clause-only
returns-clause-only c = λ valid other of.
    let all = map (λ l. l.now) c.args.lists.now in
    let v = parts_of c.args.version.now in
    let ranges : AreRangesOfAll all c.as_slice.result.now = search rules in
    let free : IsLeastFree all v (option_map parts_of c.in_ok-found.found) =
    subst (λ (x : Option Parts). IsLeastFree all v x) (sym c.in_ok-found.ensures) (c.sweep.ensures all ranges valid) in
    one-answer all v other (option_map parts_of c.in_ok-found.found) of free
