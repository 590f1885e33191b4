use Rattle.std.proofs.Common.{◌∙◌, ◌<◌, [], arith, length}
use Rattle.std.specs.Prelude.{slice_index_or}
use Rattle.rustsec_graph.proofs.Reversed.{with-one}
use Rattle.rustsec_graph.proofs.reverse.push_dependent.Goals as goal

pub loop-to-preserved : goal.loop-to-preserved
loop-to-preserved c = record {
  len = c.push_at.ensures.len ∙ c.loop-to.invariant.len;
  ok = λ p l. (
      let within : p < length c.loop-to.lists.items = omega (arith, l, c.loop-to.invariant.len) in
      with-one c.args.place p c.loop-to.to-index (slice_index_or c.args.lists.now.items p []) (slice_index_or c.loop-to.lists.items p [])
      (slice_index_or c.push_at.new.lists.items p []) c.args.successors.now 0 c.loop-to-test.true (c.requires p l) (c.loop-to.invariant.ok p l)
      (c.in_ok-push_at.ensures.ok p within)
      );
}
