-- The graph of a lockfile.
use Rattle.std.specs.Prelude.{◌||◌, ◌<◌, not, ℕ, Bool, false, List, Option, Some, None, is_none, length, slice_get}
use Rattle.std.specs.List.{All, filter}
use Rattle.toml.specs.Data.{Members}
use Rattle.rustsec_lock.specs.Package.{PackageValue}
use Rattle.rustsec_graph.specs.Edges.{edges_of, is_needed, unresolved}
use Rattle.rustsec_graph.specs.Entries.{places}
use Rattle.rustsec_graph.specs.Paths.{successors}

-- a graph: the places that each package depends on, the roots, and for each package the texts of its entries that name none
pub record GraphValue : Type 0 where
  pub edges : List (List ℕ)
  pub roots : List ℕ
  pub unresolved : List (List (List ℕ))

-- whether a package is local: a member of the workspace or a path dependency, which has no source
abbrev pub is_local : Option PackageValue → Bool
is_local None = false
is_local (Some p) = is_none p.source

-- the roots: the local packages, and those on which no other package depends
abbrev pub roots_of : List PackageValue → List (List ℕ) → List ℕ
roots_of packages edges =
    filter (λ place. is_local (slice_get packages place) || not (is_needed edges place)) (places (length edges))

-- the graph of a lockfile's table and of its packages
abbrev pub graph_of : Members → List PackageValue → GraphValue
graph_of ms packages = record {
  edges = edges_of ms packages;
  roots = roots_of packages (edges_of ms packages);
  unresolved = unresolved ms packages;
}

-- all places are places of packages
pub record IsClosed (edges : List (List ℕ)) (roots : List ℕ) : Type 0 where
  pub all_targets : (place : ℕ) → All (λ target. target < length edges) (successors edges place)
  pub all_roots : All (λ root. root < length edges) roots
