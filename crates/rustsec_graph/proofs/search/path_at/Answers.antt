use Rattle.std.proofs.Common.{◌∙◌, ◌++◌, ◌∷◌, [], ap, reverse, sym}
use Rattle.rustsec_graph.specs.Search.{path_if}
use Rattle.rustsec_graph.proofs.Shortest.{at-step}
use Rattle.rustsec_graph.proofs.search.path_at.Goals as goal

pub seats-preserved : goal.seats-preserved
seats-preserved c =
    let s = c.args.search.now in
    let old = c.seats.path.items in
    let new = c.push.new.self.items in
    c.seats.invariant ∙ ap (λ o. path_if s o ++ reverse old) c.in-Some.is
    ∙ at-step s c.requires c.in-Some.seat old new (c.in_ok-push.ensures.items ∙ ap (λ x. old ++ x ∷ []) c.place_of.ensures)
    ∙ ap (λ o. path_if s o ++ reverse new) (sym c.before_of-next.ensures)
