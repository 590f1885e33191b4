use Rattle.std.proofs.Common.{◌≡◌, ◌∙◌, ◌++◌, ◌∷◌, ◌||◌, ℕ, [], ap, not, rules, sym}
use Rattle.std.specs.Prelude.{slice_get}
use Rattle.rustsec_graph.specs.Edges.{is_needed}
use Rattle.rustsec_graph.specs.Graph.{is_local}
use Rattle.rustsec_graph.proofs.Words.{place-dropped, place-kept}
use Rattle.rustsec_graph.proofs.edges.roots_of.Goals as goal
use Rattle.rustsec_graph.proofs.edges.roots_of.Goals.{else-is_root, then-is_root+in_ok-push}

pub loop-place-preserved : goal.loop-place-preserved
loop-place-preserved c =
    let i = c.loop-place.place in
    let packages = c.args.packages.now in
    let edges = c.args.edges.now in
    let local = is_local (slice_get packages i) in
    let p = λ (place : ℕ). is_local (slice_get packages place) || not (is_needed edges place) in
    let same : c.is_root.result ≡ p i = c.is_root.ensures ∙ ap (λ b. local || not b) (c.in_ok-needed.ensures.needed i c.loop-place-test.true) in
    elim c.if-is_root.branch [
      | then-is_root+in_ok-push w ↦
          let more : c.if-is_root.roots.items ≡ c.loop-place.roots.items ++ i ∷ [] = search rules in
          place-kept p i c.loop-place.roots.items c.if-is_root.roots.items (sym same ∙ w.if-is_root.true) c.loop-place.invariant more
      | else-is_root w ↦
          let kept : c.if-is_root.roots.items ≡ c.loop-place.roots.items = search rules in
          place-dropped p i c.loop-place.roots.items c.if-is_root.roots.items (sym same ∙ w.if-is_root.false) c.loop-place.invariant kept
    ]
