use Rattle.rustsec_registry.proofs.index.Asked.{asked-push}
use Rattle.rustsec_registry.proofs.index.yanked.asked.Goals as goal

pub loop-package-preserved : goal.loop-package-preserved
loop-package-preserved c =
    asked-push c.args.packages.now c.loop-package.copies c.push_asked.new.copies c.loop-package.package-index c.package-item.result
    c.loop-package-test.true c.package-item.is c.loop-package.invariant c.in_ok-push_asked.ensures.ok
