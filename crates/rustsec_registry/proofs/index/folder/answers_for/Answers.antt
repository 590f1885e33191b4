use Rattle.rustsec_files.proofs.Same.{same-trans}
use Rattle.rustsec_registry.proofs.index.Readings.{all-more, each-more}
use Rattle.rustsec_registry.proofs.index.folder.answers_for.Goals as goal

pub loop-package-preserved : goal.loop-package-preserved
loop-package-preserved g c = record {
  same = same-trans _ _ _ c.loop-package.invariant.same c.add.ensures.same;
  each = each-more _ (g.F.Folders.allowed c.loop-package.folders) c.args.place.now c.package-item.result.name c.loop-package.answers c.add.new.answers
      c.loop-package.invariant.same c.loop-package.invariant.each c.in_ok-add.ensures.added;
  all = all-more (g.F.Folders.allowed c.loop-package.folders) c.args.place.now c.args.packages.now c.loop-package.package-index c.package-item.result
      c.loop-package.answers c.add.new.answers c.loop-package-test.true c.package-item.is c.loop-package.invariant.all c.in_ok-add.ensures.added;
}
