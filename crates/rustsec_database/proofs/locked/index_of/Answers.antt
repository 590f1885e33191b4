use Rattle.std.proofs.Common.{ap}
use Rattle.rustsec_lock.specs.Package.{PackageValue}
use Rattle.rustsec_database.proofs.Touching.{named-more}
use Rattle.rustsec_database.proofs.locked.index_of.Goals as goal

pub loop-place-preserved : goal.loop-place-preserved
loop-place-preserved c =
    named-more c.args.packages.now c.loop-place.place c.index-packages-place.result c.new.result c.package.inside.name c.loop-place.index
    c.insert.new.self c.loop-place-test.true c.index-packages-place.is c.new.ensures (ap (λ (p : PackageValue). p.name) c.package.view_is)
    c.in_ok-_fresh.ensures.slots c.loop-place.invariant
