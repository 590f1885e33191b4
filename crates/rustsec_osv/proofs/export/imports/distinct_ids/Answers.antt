use Rattle.rustsec_texts.specs.IdOrder.{id_decides, id_eq, id_equiv, id_order, id_ties, id_total}
use Rattle.rustsec_osv.proofs.Distinct.{are-distinct-values}
use Rattle.rustsec_osv.proofs.export.imports.distinct_ids.Goals as goal

pub returns : goal.returns
returns c =
    are-distinct-values id_order id_total id_eq id_ties id_equiv (λ x y. (id_decides x y).0) c.args.ids.items c.sort.new.self.items
    c.dedup.new.self.items c.sort.ensures.permutation c.in_ok-sort.ensures.sorted c.dedup.ensures.filtered
