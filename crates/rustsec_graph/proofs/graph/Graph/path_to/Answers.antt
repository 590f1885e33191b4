use Rattle.std.proofs.Common.{rules, subst, sym}
use Rattle.std.specs.Prelude.{List, option_map, ℕ}
use Rattle.rustsec_graph.specs.Graph.{GraphValue}
use Rattle.rustsec_graph.specs.Paths.{IsAnswer, IsPathTo}
use Rattle.rustsec_graph.specs.Search.{path_to}
use Rattle.rustsec_graph.proofs.Shortest.{answer, is-reached}
use Rattle.rustsec_graph.proofs.graph.Graph.path_to.Goals as goal

pub path_to-requires : goal.path_to-requires
path_to-requires c = λ a b e. (c.self.invariant.1.is.next a b e).0

pub returns-clause-ok : goal.returns-clause-ok
returns-clause-ok c =
    subst (λ (g : GraphValue). IsAnswer g.edges g.roots c.args.place (option_map (λ v. v.items) c.in_ok-path.path)) c.self.view_is
    (subst (IsAnswer c.self.inside.edges c.self.inside.roots c.args.place) (sym c.in_ok-path.ensures.ok)
    (answer c.self.inside.edges c.self.inside.roots c.self.inside.search c.self.invariant.1 c.args.place))

pub returns-in_err-path-clause-none : goal.returns-in_err-path-clause-none
returns-in_err-path-clause-none c =
    let edges = c.self.inside.edges in
    let roots = c.self.inside.roots in
    let s = c.self.inside.search in
    let whole = answer edges roots s c.self.invariant.1 c.args.place in
    let path = is-reached edges roots c.args.place (path_to s c.args.place) whole c.in_err-path.ensures.none in
    let same : (path : List ℕ) × IsPathTo c.args.self.now.edges c.args.self.now.roots c.args.place path =
    subst (λ (g : GraphValue). (path : List ℕ) × IsPathTo g.edges g.roots c.args.place path) c.self.view_is path in
    search (rules, same)
