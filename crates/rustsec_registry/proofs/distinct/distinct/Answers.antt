use Rattle.rustsec_registry.proofs.Sorting.{are-distinct}
use Rattle.rustsec_registry.proofs.distinct.distinct.Goals as goal

pub returns : goal.returns
returns c =
    are-distinct c.args.packages.now c.in_ok-sorted.sorted.items c.sort.new.self.items c.dedup.new.self.items c.in_ok-sorted.ensures
    c.sort.ensures.permutation c.in_ok-sort.ensures.sorted c.dedup.ensures.filtered
