use Rattle.std.proofs.Common.{◌≡◌, ◌++◌, rules}
use Rattle.rustsec_check.proofs.Fixes.{one-more}
use Rattle.rustsec_check.proofs.ranges.add_ranges.Goals as goal

pub returns-clause-ok : goal.returns-clause-ok
returns-clause-ok c before h =
    let same : c.append.new.self.items ≡ c.args.all.now.items ++ c.in_ok-ranges.ranges.items = search rules in
    one-more before c.args.lists.now c.args.all.now.items c.in_ok-ranges.ranges.items c.append.new.self.items h c.in_ok-ranges.ensures.ranges
    c.in_ok-ranges.ensures.agree same
