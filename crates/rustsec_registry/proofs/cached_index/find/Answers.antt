use Rattle.rustsec_registry.proofs.Growth.{grows-distinct, kept-distinct, on_ok-always}
use Rattle.rustsec_registry.proofs.cached_index.find.Goals as goal

pub returns-in_err-ask_all-clause-grown : goal.returns-in_err-ask_all-clause-grown
returns-in_err-ask_all-clause-grown g c =
    grows-distinct c.args.packages.now c.in_ok-distinct.distinct.items c.deref.result.now c.args.kept.now c.ask_all.new.kept c.deref.ensures.value
    c.in_ok-distinct.ensures c.ask_all.ensures.grown

pub returns-clause-asked : goal.returns-clause-asked
returns-clause-asked g c =
    on_ok-always c.verdicts.result (kept-distinct c.args.packages.now c.in_ok-distinct.distinct.items c.deref.result.now c.ask_all.new.kept
    c.deref.ensures.value c.in_ok-distinct.ensures c.in_ok-ask_all.ensures.asked)

pub returns-clause-grown : goal.returns-clause-grown
returns-clause-grown g c =
    grows-distinct c.args.packages.now c.in_ok-distinct.distinct.items c.deref.result.now c.args.kept.now c.ask_all.new.kept c.deref.ensures.value
    c.in_ok-distinct.ensures c.ask_all.ensures.grown
