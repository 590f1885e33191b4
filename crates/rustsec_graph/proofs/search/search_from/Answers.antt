use Rattle.std.proofs.Common.{◌<◌, ap, arith, length}
use Rattle.std.proofs.lemmas.List.Elements.{All-contains}
use Rattle.rustsec_graph.specs.Search.{SearchValue}
use Rattle.rustsec_graph.proofs.Searches.{few-seats, roots-searched, whole-from}
use Rattle.rustsec_graph.proofs.search.search_from.Goals as goal

pub seats-init : goal.seats-init
seats-init c =
    let edges = c.args.edges.now in
    let roots = c.args.roots.now in
    let new = c.in_ok-search.ensures in
    roots-searched edges roots c.in_ok-search.search c.visit_all.new.self (ap (λ (s : SearchValue). s.order) new) (ap (λ (s : SearchValue). s.before) new)
    (ap (λ (s : SearchValue). s.seats) new) c.requires.rise (λ y there. All-contains (λ r. r < length edges) roots y c.requires.closed.all_roots there)
    c.in_ok-visit_all.ensures

pub seats-smaller : goal.seats-smaller
seats-smaller c = omega (arith, few-seats c.args.edges.now c.args.roots.now c.seats.search c.seats.invariant.is, c.seats-test.true, c.len.ensures)

pub seats-preserved : goal.seats-preserved
seats-preserved c = c.in_ok-visit_successors.ensures c.args.roots.now c.seats.invariant

pub returns : goal.returns
returns c = whole-from c.args.edges.now c.args.roots.now c.seats.seat c.seats.search c.seats.invariant (omega (arith, c.seats-test.false, c.len.ensures))
