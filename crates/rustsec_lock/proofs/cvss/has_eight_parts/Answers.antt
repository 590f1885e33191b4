use Rattle.std.proofs.Common.{lit<}
use Rattle.std.proofs.lemmas.Iterator.Consumers.{count_from_yields_List}
use Rattle.std.proofs.lemmas.Iterator.Splits.{YieldsList-from_str_split}
use Rattle.rustsec_lock.proofs.CvssParts.{counted_eight, first_items}
use Rattle.rustsec_lock.proofs.cvss.has_eight_parts.Goals as goal

pub returns : goal.returns
returns c =
    let its = c.split.ensures in
    let whole = YieldsList-from_str_split 47 c.args.text.now (lit< tt) its.text its.has_more its.pattern in
    let taken = first_items 9 whole c.take.ensures.source c.take.ensures.count in
    counted_eight c.args.text.now c.count.result (count_from_yields_List c.take.result c.count.result c.count.ensures.ran taken)
