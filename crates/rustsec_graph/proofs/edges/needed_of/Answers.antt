use Rattle.std.proofs.Common.{◌≡◌, ◌∙◌, ◌==◌, ◌&&◌, ◌||◌, [], ap, arith, not, sym}
use Rattle.std.specs.List.{list_any, range_with_len}
use Rattle.std.proofs.lemmas.List.{get_or_default}
use Rattle.rustsec_graph.specs.Edges.{is_successor}
use Rattle.rustsec_graph.specs.Paths.{successors}
use Rattle.rustsec_graph.proofs.Words.{any_more}
use Rattle.rustsec_graph.proofs.edges.needed_of.Goals as goal

pub loop-from-preserved : goal.loop-from-preserved
loop-from-preserved c = record {
  len = c.mark.ensures.len ∙ c.loop-from.invariant.len;
  marks = λ place l. (
      let edges = c.args.edges.now in
      let from = c.loop-from.from in
      let at : c.as_slice.result.now ≡ successors edges from =
      c.as_slice.ensures ∙ (c.index-edges-from.is ∙ get_or_default edges from c.index-edges-from.result [] c.loop-from-test.true) in
      c.mark.ensures.marks place (omega (arith, l, c.loop-from.invariant.len))
      ∙ ap (λ b. b || (not (from == place) && list_any (λ to. to == place) c.as_slice.result.now)) (c.loop-from.invariant.marks place l)
      ∙ ap (λ xs. list_any (λ f. not (f == place) && is_successor edges place f) (range_with_len 0 from) || (not (from == place) && list_any (λ to. to == place) xs)) at
      ∙ sym (any_more (λ f. not (f == place) && is_successor edges place f) from)
      );
}
