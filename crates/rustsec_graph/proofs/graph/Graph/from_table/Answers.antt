use Rattle.std.proofs.Common.{◌≡◌, ◌∙◌, ap, map, subst, sym}
use Rattle.toml.specs.View.{table_view}
use Rattle.rustsec_graph.specs.Candidates.{candidate_of, candidates, is_old}
use Rattle.rustsec_graph.specs.Edges.{edges_of}
use Rattle.rustsec_graph.specs.Graph.{roots_of}
use Rattle.rustsec_graph.specs.Reverse.{AreReversed}
use Rattle.rustsec_graph.specs.Search.{IsWhole}
use Rattle.rustsec_graph.proofs.Closed.{closed-at, edges-are, roots-rise, unresolved-are}
use Rattle.rustsec_graph.proofs.graph.Graph.from_table.Goals as goal

pub search_from-requires-clause-closed : goal.search_from-requires-clause-closed
search_from-requires-clause-closed c =
    let ms = table_view c.args.table.now in
    let ps = c.args.lockfile.now.packages in
    let es = c.as_slice-edge_lists.result.now in
    let all : c.in_ok-index.index ≡ candidates ms ps =
    c.in_ok-index.ensures ∙ ap (λ old. map (candidate_of old) c.as_slice-packages.result.now) c.is_old.ensures
    ∙ ap (map (candidate_of (is_old ms))) c.as_slice-packages.ensures in
    let edges : es ≡ edges_of ms ps = c.as_slice-edge_lists.ensures ∙ edges-are ms ps c.in_ok-index.index c.in_ok-edges.field-0.edges all c.in_ok-edges.ensures.edges in
    let roots : c.as_slice-root_places.result.now ≡ roots_of ps es =
    c.as_slice-root_places.ensures.value ∙ c.in_ok-roots.ensures ∙ ap (λ qs. roots_of qs es) c.as_slice-packages.ensures in
    closed-at ms ps es c.as_slice-root_places.result.now edges roots

pub search_from-requires-clause-rise : goal.search_from-requires-clause-rise
search_from-requires-clause-rise c =
    let es = c.as_slice-edge_lists.result.now in
    roots-rise c.args.lockfile.now.packages es c.as_slice-root_places.result.now
    (c.as_slice-root_places.ensures.value ∙ c.in_ok-roots.ensures ∙ ap (λ qs. roots_of qs es) c.as_slice-packages.ensures)

pub invariant_of-result : goal.invariant_of-result
invariant_of-result c =
    let ms = table_view c.args.table.now in
    let ps = c.args.lockfile.now.packages in
    let es = c.as_slice-edge_lists.result.now in
    let all : c.in_ok-index.index ≡ candidates ms ps =
    c.in_ok-index.ensures ∙ ap (λ old. map (candidate_of old) c.as_slice-packages.result.now) c.is_old.ensures
    ∙ ap (map (candidate_of (is_old ms))) c.as_slice-packages.ensures in
    let edges : c.in_ok-edges.field-0.edges ≡ edges_of ms ps = edges-are ms ps c.in_ok-index.index c.in_ok-edges.field-0.edges all c.in_ok-edges.ensures.edges in
    let roots : c.from.result ≡ roots_of ps c.in_ok-edges.field-0.edges =
    c.from.ensures ∙ c.in_ok-roots.ensures ∙ ap (λ qs. roots_of qs es) c.as_slice-packages.ensures ∙ ap (roots_of ps) c.as_slice-edge_lists.ensures in
    let whole = subst (λ xs. IsWhole xs c.from.result c.in_ok-search.search) c.as_slice-edge_lists.ensures
    (subst (λ rs. IsWhole es rs c.in_ok-search.search) (c.as_slice-root_places.ensures.value ∙ sym c.from.ensures) c.in_ok-search.ensures) in
    let lists = subst (λ xs. AreReversed xs c.in_ok-dependents.dependents.items) c.as_slice-edge_lists.ensures
    (record { len = c.in_ok-dependents.ensures.len; each = c.in_ok-dependents.ensures.each }) in
    (closed-at ms ps c.in_ok-edges.field-0.edges c.from.result edges roots, whole, lists)

pub returns-clause-ok : goal.returns-clause-ok
returns-clause-ok c =
    let ms = table_view c.args.table.now in
    let ps = c.args.lockfile.now.packages in
    let es = c.as_slice-edge_lists.result.now in
    let all : c.in_ok-index.index ≡ candidates ms ps =
    c.in_ok-index.ensures ∙ ap (λ old. map (candidate_of old) c.as_slice-packages.result.now) c.is_old.ensures
    ∙ ap (map (candidate_of (is_old ms))) c.as_slice-packages.ensures in
    let edges = edges-are ms ps c.in_ok-index.index c.in_ok-edges.field-0.edges all c.in_ok-edges.ensures.edges in
    let texts = unresolved-are ms ps c.in_ok-index.index c.in_ok-edges.field-0.unresolved all c.in_ok-edges.ensures.unresolved in
    let roots = c.from.ensures ∙ c.in_ok-roots.ensures ∙ ap (λ qs. roots_of qs es) c.as_slice-packages.ensures
    ∙ ap (roots_of ps) (c.as_slice-edge_lists.ensures ∙ edges) in
    λ i. record { edges = edges i; roots = roots i; unresolved = texts i }
