use Rattle.std.proofs.Common.{◌∙◌, ap, lit<}
use Rattle.std.specs.List.{list_all}
use Rattle.std.specs.Str.Iter.{split_has_more, split_pattern, split_text}
use Rattle.std.proofs.lemmas.Iterator.Consumers.{YieldsList-end}
use Rattle.std.proofs.lemmas.Iterator.Splits.{YieldsList-from_str_split}
use Rattle.rustsec_osv_rules.specs.schema.VectorScan.{is_metric_2}
use Rattle.rustsec_osv_rules.proofs.schema.vectors.is_vector_2.Goals as goal

pub returns : goal.returns
returns c =
    let e = c.into_iter-part-iterator.ensures.into_iter_gives in
    let its = c.split-part-items.ensures in
    let whole = YieldsList-from_str_split 47 c.args.text.now (lit< tt) (ap split_text e ∙ its.text) (ap split_has_more e ∙ its.has_more) (ap split_pattern e ∙ its.pattern) in
    c.loop-part.invariant ∙ ap (λ xs. list_all is_metric_2 xs) (YieldsList-end whole c.loop-part.yielded _ c.loop-part.yielded_by _ _ c.in-None.is c.next.ensures.steps).0
