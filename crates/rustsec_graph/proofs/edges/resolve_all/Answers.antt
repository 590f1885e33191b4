use Rattle.std.proofs.Common.{◌∙◌, ap}
use Rattle.toml.specs.View.{table_view}
use Rattle.rustsec_graph.specs.Edges.{targets_at, targets_in, unresolved_at, unresolved_in}
use Rattle.rustsec_graph.proofs.Closed.{place-more}
use Rattle.rustsec_graph.proofs.edges.resolve_all.Goals as goal

pub loop-place-preserved : goal.loop-place-preserved
loop-place-preserved c =
    let cs = c.args.index.now in
    let ms = table_view c.args.table.now in
    let place = c.loop-place.place in
    record {
      edges = place-more (targets_at cs ms) place c.loop-place.edges c.push.new.self
          c.in_ok-targets.field-0.targets c.loop-place.invariant.edges c.in_ok-push.ensures.ok
          (c.in_ok-targets.ensures.targets ∙ ap (λ packages. targets_in cs packages place) c.packages_in-packages.ensures);
      unresolved = place-more (unresolved_at cs ms) place c.loop-place.unresolved
          c.push-in-loop-place.new.self c.in_ok-targets.field-0.unresolved c.loop-place.invariant.unresolved c.in_ok-push-2.ensures.ok
          (c.in_ok-targets.ensures.unresolved ∙ ap (λ packages. unresolved_in cs packages place) c.packages_in-packages.ensures);
    }
