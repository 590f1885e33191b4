use Rattle.std.specs.Prelude.{nat_eq, string_bytes}
use Rattle.std.specs.Cmp.Lexicographic.{bytes_decides, nat_list_cmp_total, nat_list_eq_equiv, pointwise, texts_ties}
use Rattle.rustsec_lock.specs.Names.{name_cmp}
use Rattle.rustsec_osv.proofs.Distinct.{are-distinct}
use Rattle.rustsec_osv.proofs.export.imports.distinct_names.Goals as goal

pub returns : goal.returns
returns c =
    are-distinct string_bytes name_cmp nat_list_cmp_total (pointwise nat_eq) texts_ties nat_list_eq_equiv (λ x y. (bytes_decides x y).0)
    c.args.names.items c.sort.new.self.items c.dedup.new.self.items c.sort.ensures.permutation c.in_ok-sort.ensures.sorted c.dedup.ensures.filtered
