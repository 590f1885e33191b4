use Rattle.std.proofs.Common.{◌≡◌, ◌∙◌, ◌<◌, ◌++◌, ◌==◌, ◌∷◌, [], ap, arith, cond, length}
use Rattle.std.specs.Prelude.{slice_index_or}
use Rattle.std.specs.List.{list_any}
use Rattle.std.proofs.lemmas.List.{get_or_default}
use Rattle.rustsec_graph.specs.Edges.{is_successor}
use Rattle.rustsec_graph.specs.Paths.{successors}
use Rattle.rustsec_graph.specs.Reverse.{ends_with}
use Rattle.rustsec_graph.proofs.Reversed.{fresh, place-more}
use Rattle.rustsec_graph.proofs.reverse.reversed.Goals as goal

pub push_dependent-requires : goal.push_dependent-requires
push_dependent-requires c = λ p l. (
    let place = c.loop-place.place in
    let within : p < length c.args.edges.now = omega (arith, l, c.loop-place.invariant.len) in
    ap (ends_with place) (c.loop-place.invariant.each p within) ∙ fresh place (is_successor c.args.edges.now p)
    )

pub loop-place-preserved : goal.loop-place-preserved
loop-place-preserved c = record {
  len = c.push_dependent.ensures.len ∙ c.loop-place.invariant.len;
  each = λ p l. (
      let edges = c.args.edges.now in
      let place = c.loop-place.place in
      let old = slice_index_or c.loop-place.lists.items p [] in
      let at : c.as_slice.result.now ≡ successors edges place =
      c.as_slice.ensures ∙ (c.index-edges-place.is ∙ get_or_default edges place c.index-edges-place.result [] c.loop-place-test.true) in
      let within : p < length c.loop-place.lists.items = omega (arith, l, c.loop-place.invariant.len) in
      place-more edges p place old (slice_index_or c.push_dependent.new.lists.items p []) (c.loop-place.invariant.each p l)
      (c.in_ok-push_dependent.ensures.ok p within ∙ ap (λ xs. old ++ cond (list_any (λ to. to == p) xs) (place ∷ []) []) at)
      );
}
