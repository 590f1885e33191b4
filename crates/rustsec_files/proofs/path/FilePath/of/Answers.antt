use Rattle.std.proofs.Common.{◌∙◌, ap, lit<, map, sym}
use Rattle.std.specs.List.{filter}
use Rattle.std.specs.Str.Iter.{split_has_more, split_pattern, split_text}
use Rattle.std.proofs.lemmas.Iterator.Consumers.{YieldsList-end}
use Rattle.std.proofs.lemmas.Iterator.Splits.{YieldsList-from_str_split}
use Rattle.std.proofs.lemmas.List.{map-append}
use Rattle.rustsec_files.specs.Paths.{is_segment, last, without_last}
use Rattle.rustsec_files.proofs.Segments.{filter-kept, pushed}
use Rattle.rustsec_files.proofs.path.FilePath.of.Goals as goal

pub loop-text-preserved-then-is_segment : goal.loop-text-preserved-then-is_segment
loop-text-preserved-then-is_segment c =
    let kept = sym c.is_segment.ensures ∙ c.if-is_segment.true in
    rw (map-append _ c.loop-text.yielded _, filter-kept is_segment _ c.in-Some.text.now kept)
    (pushed (filter is_segment (map (λ p. p.now) c.loop-text.yielded)) c.in-Some.text.now _ _ c.loop-text.invariant.0 c.loop-text.invariant.1.0)

pub invariant_of-result : goal.invariant_of-result
invariant_of-result c =
    let e = c.into_iter-text-iterator.ensures.into_iter_gives in
    let its = c.split-text-items.ensures in
    let whole = YieldsList-from_str_split 47 c.args.path.now (lit< tt) (ap split_text e ∙ its.text) (ap split_has_more e ∙ its.has_more) (ap split_pattern e ∙ its.pattern) in
    let all = (YieldsList-end whole c.loop-text.yielded _ c.loop-text.yielded_by _ _ c.in-None.is c.next.ensures.steps).0 in
    record {
      file_is = c.loop-text.invariant.0 ∙ ap (λ xs. last (filter is_segment xs)) all;
      folder_is = c.loop-text.invariant.1.0 ∙ ap (λ xs. last (without_last (filter is_segment xs))) all;
      parent_is = c.loop-text.invariant.1.1 ∙ ap (λ xs. last (without_last (without_last (filter is_segment xs)))) all;
    }
