use Rattle.std.proofs.Common.{◌≡◌, ◌∙◌, ap, lit<, rules}
use Rattle.std.specs.List.{filter}
use Rattle.std.specs.Str.Iter.{split_has_more, split_pattern, split_text}
use Rattle.std.proofs.lemmas.Iterator.Consumers.{YieldsList-end, YieldsList-turn}
use Rattle.std.proofs.lemmas.Iterator.Splits.{YieldsList-from_str_split}
use Rattle.rustsec_files.specs.Entries.{is_entry_name}
use Rattle.rustsec_files.proofs.Lists.{filter-some}
use Rattle.rustsec_files.proofs.split.entry_names.Goals as goal

pub returns-in_err-push_entry_name-clause-none : goal.returns-in_err-push_entry_name-clause-none
returns-in_err-push_entry_name-clause-none c =
    let e = c.into_iter-part-iterator.ensures.into_iter_gives in
    let its = c.split-part-items.ensures in
    let whole = YieldsList-from_str_split 0 c.args.listing.now (lit< tt) (ap split_text e ∙ its.text) (ap split_has_more e ∙ its.has_more) (ap split_pattern e ∙ its.pattern) in
    let (low, at) = YieldsList-turn whole c.loop-part.yielded _ c.loop-part.yielded_by _ _ _ c.in-Some.is c.next.ensures.steps in
    let some = filter-some is_entry_name _ _ c.in-Some.part.now low at c.in_err-push_entry_name.ensures.none in
    search (rules, some)

pub returns-clause-ok : goal.returns-clause-ok
returns-clause-ok c =
    let e = c.into_iter-part-iterator.ensures.into_iter_gives in
    let its = c.split-part-items.ensures in
    let whole = YieldsList-from_str_split 0 c.args.listing.now (lit< tt) (ap split_text e ∙ its.text) (ap split_has_more e ∙ its.has_more) (ap split_pattern e ∙ its.pattern) in
    c.loop-part.invariant ∙ ap (λ xs. filter is_entry_name xs) (YieldsList-end whole c.loop-part.yielded _ c.loop-part.yielded_by _ _ c.in-None.is c.next.ensures.steps).0
