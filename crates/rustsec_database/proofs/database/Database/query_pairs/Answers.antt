use Rattle.std.proofs.Common.{◌∙◌, sym}
use Rattle.rustsec_database.proofs.Pairs.{pairs-more, pairs-none}
use Rattle.rustsec_database.proofs.database.Database.query_pairs.Goals as goal

pub loop-package-init : goal.loop-package-init
loop-package-init c = c.new-pairs.ensures.items ∙ sym (pairs-none c.args.self.now c.args.query.now)

pub loop-package-preserved : goal.loop-package-preserved
loop-package-preserved c =
    pairs-more c.args.self.now c.args.query.now _ c.loop-package.package-index c.package-item.result c.loop-package.pairs.items
    c.query_package.new.pairs.items c.loop-package-test.true c.package-item.is c.loop-package.invariant c.in_ok-query_package.ensures
