-- Paths along edges. Places are numbered from 0 on, and the edges are a list with the successors of each place.
use Rattle.std.specs.Prelude.{◌≡◌, ◌≢◌, ◌≤◌, ℕ, Contains, List, [], ◌∷◌, Option, MatchOption, length, slice_index_or}
use Rattle.std.specs.Cmp.Lexicographic.{slice_cmp}
use Rattle.std.specs.Ordering.{nat_cmp}
use Rattle.std.specs.declared.cmp.Ordering.TheVariants.{Greater}

-- the successors of a place; it has none past the end of the list
abbrev pub successors : List (List ℕ) → ℕ → List ℕ
successors edges place = slice_index_or edges place []

-- whether there is an edge from a place to another one
abbrev pub HasEdge : List (List ℕ) → ℕ → ℕ → Type 0
HasEdge edges from to = Contains (successors edges from) to

-- a walk that ends at the target: each place has an edge to the next one, and the last place is the target
abbrev pub LeadsTo : List (List ℕ) → ℕ → List ℕ → Type 0
LeadsTo edges target [] = ⊥
LeadsTo edges target (place ∷ []) = place ≡ target
LeadsTo edges target (place ∷ (next ∷ rest)) = HasEdge edges place next × LeadsTo edges target (next ∷ rest)

-- the first place is a root
abbrev pub StartsAt : List ℕ → List ℕ → Type 0
StartsAt roots [] = ⊥
StartsAt roots (place ∷ rest) = Contains roots place

-- a path from a root to the target
pub record IsPathTo (edges : List (List ℕ)) (roots : List ℕ) (target : ℕ) (path : List ℕ) : Type 0 where
  pub starts : StartsAt roots path
  pub leads : LeadsTo edges target path

-- a shortest path: no path from any root to the target has fewer places
pub record IsShortest (edges : List (List ℕ)) (roots : List ℕ) (target : ℕ) (path : List ℕ) : Type 0 where
  pub is_path : IsPathTo edges roots target path
  pub no_shorter : (other : List ℕ) → IsPathTo edges roots target other → length path ≤ length other

-- the first of the shortest paths: none comes before it if paths are compared place by place
pub record IsFirst (edges : List (List ℕ)) (roots : List ℕ) (target : ℕ) (path : List ℕ) : Type 0 where
  pub shortest : IsShortest edges roots target path
  pub none_before : (other : List ℕ) → IsShortest edges roots target other → slice_cmp nat_cmp path other ≢ Greater

-- the answer for a target: the first of the shortest paths, or none if no root reaches the target
abbrev pub IsAnswer : List (List ℕ) → List ℕ → ℕ → Option (List ℕ) → Type 0
IsAnswer edges roots target answer =
    MatchOption answer ((path : List ℕ) → IsPathTo edges roots target path → ⊥) (IsFirst edges roots target)
