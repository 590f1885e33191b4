use Rattle.std.proofs.Common.{◌∙◌, ◌≤◌, ap, arith, length, sym}
use Rattle.rustsec_graph.specs.Edges.{dependents}
use Rattle.rustsec_graph.specs.Graph.{GraphValue}
use Rattle.rustsec_graph.proofs.Reversed.{past-end}
use Rattle.rustsec_graph.proofs.graph.Graph.dependents.Goals as goal

pub returns-in_default-clause-ok : goal.returns-in_default-clause-ok
returns-in_default-clause-ok c =
    let edges = c.self.inside.edges in
    let past : length edges ≤ c.args.place =
    omega (arith, c.in_default.ensures.lookup.3, ap (λ xs. length xs) c.deref.ensures.value, c.self.invariant.2.len) in
    c.new.ensures.items
    ∙ (sym (past-end edges c.self.inside.roots c.args.place c.self.invariant.0 past) ∙ ap (λ (g : GraphValue). dependents g.edges c.args.place) c.self.view_is)
