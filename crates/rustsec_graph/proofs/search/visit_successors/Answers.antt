use Rattle.std.proofs.Common.{◌∙◌, ◌<◌, ℕ, Some, ap, length, subst, sym}
use Rattle.std.specs.Prelude.{slice_index_or}
use Rattle.std.specs.List.Sorted.{IsPermutation}
use Rattle.std.proofs.lemmas.List.Elements.{All-contains}
use Rattle.rustsec_graph.specs.Paths.{successors}
use Rattle.rustsec_graph.specs.Search.{place_of, visits}
use Rattle.rustsec_graph.proofs.Searches.{all-permuted, step-searched}
use Rattle.rustsec_graph.proofs.search.visit_successors.Goals as goal

pub visit_all-requires : goal.visit_all-requires
visit_all-requires c =
    subst (λ n. (k d : ℕ) → k < length c.as_slice.result.now → slice_index_or c.as_slice.result.now k d < n) (sym c.requires.wide)
    (all-permuted (length c.args.edges.now) (successors c.args.edges.now c.place_of.result) c.in_ok-places.places.items c.as_slice.result.now
    c.in_ok-places.ensures.same c.as_slice.ensures.value (c.requires.closed c.place_of.result))

pub returns : goal.returns
returns c = λ roots w.
    let edges = c.args.edges.now in
    let s = c.args.search.now in
    let place = place_of s c.args.seat in
    let same : IsPermutation (successors edges place) c.in_ok-places.places.items =
    subst (λ p. IsPermutation (successors edges p) c.in_ok-places.places.items) c.place_of.ensures c.in_ok-places.ensures.same in
    step-searched edges roots c.args.seat s c.visit_all.new.self c.in_ok-places.places.items w c.requires.inside
    (λ y there. All-contains (λ t. t < length edges) (successors edges place) y (c.requires.closed place) there) same c.in_ok-places.ensures.sorted
    (c.in_ok-visit_all.ensures ∙ ap (visits (Some c.args.seat) s) c.as_slice.ensures.value)
