use Rattle.std.proofs.Common.{◌∙◌, ap}
use Rattle.std.specs.List.{filter}
use Rattle.std.specs.Str.Iter.{split_has_more, split_pattern, split_text}
use Rattle.std.proofs.lemmas.Iterator.Consumers.{YieldsList-end}
use Rattle.std.proofs.lemmas.Iterator.Splits.{YieldsList-from_str_split}
use Rattle.rustsec_program.specs.Check.{is_path}
use Rattle.rustsec_program.proofs.many.paths_of.Goals as goal

pub returns : goal.returns
returns c =
    let e = c.into_iter-path-iterator.ensures.into_iter_gives in
    let its = c.split-path-items.ensures in
    let whole = YieldsList-from_str_split c.args.end c.args.input.now c.requires (ap split_text e ∙ its.text) (ap split_has_more e ∙ its.has_more) (ap split_pattern e ∙ its.pattern) in
    c.loop-path.invariant ∙ ap (λ xs. filter is_path xs) (YieldsList-end whole c.loop-path.yielded _ c.loop-path.yielded_by _ _ c.in-None.is c.next.ensures.steps).0
