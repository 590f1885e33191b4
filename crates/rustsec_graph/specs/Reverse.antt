-- The packages that depend on each package, beside the edges. No public contract depends on this.
use Rattle.std.specs.Prelude.{◌≡◌, ◌-◌, ◌<◌, ◌++◌, ◌==◌, ℕ, Bool, false, List, [], ◌∷◌, if◌then◌else◌, length, slice_get, slice_index_or}
use Rattle.std.specs.Option.{option_map_or}
use Rattle.rustsec_graph.specs.Edges.{dependents}

-- whether a list of places ends with a place
abbrev pub ends_with : ℕ → List ℕ → Bool
ends_with place xs = option_map_or (λ last. last == place) (slice_get xs (length xs - 1)) false

-- a list with a place at its end
abbrev pub with_last : ℕ → List ℕ → List ℕ
with_last place xs = if ends_with place xs then xs else xs ++ place ∷ []

-- a list for each place: of those with an edge to it
pub record AreReversed (edges lists : List (List ℕ)) : Type 0 where
  pub len : length lists ≡ length edges
  pub each : (place : ℕ) → place < length edges → slice_index_or lists place [] ≡ dependents edges place
