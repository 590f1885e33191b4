use Rattle.rustsec_registry.proofs.Growth.{grows-step, grows-whole, kept-step}
use Rattle.rustsec_registry.proofs.cache_entry.ask_all.Goals as goal

pub returns-in_err-ask-clause-grown : goal.returns-in_err-ask-clause-grown
returns-in_err-ask-clause-grown g c =
    grows-whole c.args.packages.now _ c.args.kept.now c.ask.new.kept
    (grows-step c.args.packages.now c.loop-package.package-index c.package-item.result c.args.kept.now c.loop-package.kept c.ask.new.kept
    c.loop-package-test.true c.package-item.is c.loop-package.invariant.grown c.ask.ensures.grown)

pub loop-package-preserved : goal.loop-package-preserved
loop-package-preserved g c = record {
  grown = grows-step c.args.packages.now c.loop-package.package-index c.package-item.result c.args.kept.now c.loop-package.kept c.ask.new.kept
      c.loop-package-test.true c.package-item.is c.loop-package.invariant.grown c.ask.ensures.grown;
  asked = kept-step c.args.packages.now c.loop-package.package-index c.package-item.result c.loop-package.kept c.ask.new.kept
      c.loop-package-test.true c.package-item.is c.loop-package.invariant.asked c.ask.ensures.grown c.in_ok-ask.ensures.asked;
  given = λ before. c.ask.ensures.given (c.loop-package.invariant.given before);
}
