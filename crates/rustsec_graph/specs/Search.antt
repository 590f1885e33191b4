-- A breadth-first search from the roots. It finds each place by the first of its shortest paths.
use Rattle.std.specs.Prelude.{◌≡◌, ◌<◌, ◌≤◌, ◌++◌, ◌⊎◌, ℕ, zero, suc, Contains, List, [], ◌∷◌, Option, Some, None, length, nat_eq, option_map, set, slice_index_or}
use Rattle.std.specs.List.{AllPairs, IsDistinct, fold}
use Rattle.std.specs.Option.{option_map_or}
use Rattle.rustsec_graph.specs.Paths.{HasEdge}

-- what is found: the places in the order in which they are found; for each of them where in that order the place before
-- it on its path is, or none for a root; and for each place where it is in that order, if it is found
pub record SearchValue : Type 0 where
  pub order : List ℕ
  pub before : List (Option ℕ)
  pub seats : List (Option ℕ)

-- the place at a seat
abbrev pub place_of : SearchValue → ℕ → ℕ
place_of s seat = slice_index_or s.order seat 0

-- the seat before a seat
abbrev pub before_of : SearchValue → ℕ → Option ℕ
before_of s seat = slice_index_or s.before seat None

-- the seat of a place
abbrev pub seat_of : SearchValue → ℕ → Option ℕ
seat_of s place = slice_index_or s.seats place None

-- ---- the search

-- what is found after a visit of a place from a seat, or as a root: a place that has a seat keeps it
abbrev pub visit_if : Option ℕ → ℕ → Option ℕ → SearchValue → SearchValue
visit_if before place (Some seat) s = s
visit_if before place None s = record {
  order = s.order ++ place ∷ [];
  before = s.before ++ before ∷ [];
  seats = set s.seats place (Some (length s.order));
}

abbrev pub visit : Option ℕ → SearchValue → ℕ → SearchValue
visit before s place = visit_if before place (seat_of s place) s

-- what is found after visits of several places
abbrev pub visits : Option ℕ → SearchValue → List ℕ → SearchValue
visits before s places = fold (visit before) s places

-- ---- its laws

-- how two seats follow one another: roots rise, and come before other places; these go by the seat before them, and then
-- rise
abbrev pub IsRising : Option ℕ → Option ℕ → ℕ → ℕ → Type 0
IsRising None None a b = a < b
IsRising None (Some j) a b = Unit {0}
IsRising (Some i) None a b = ⊥
IsRising (Some i) (Some j) a b = (i < j) ⊎ ((i ≡ j) × (a < b))

-- each place has one seat, a root has no seat before it, an edge leads from the place at the seat before to any other
-- place, and the seats follow one another
pub record IsSearch (edges : List (List ℕ)) (roots : List ℕ) (s : SearchValue) : Type 0 where
  pub each : length s.before ≡ length s.order
  pub wide : length s.seats ≡ length edges
  pub distinct : IsDistinct nat_eq s.order
  pub seated : (seat : ℕ) → seat < length s.order → seat_of s (place_of s seat) ≡ Some seat
  pub placed : (place seat : ℕ) → seat_of s place ≡ Some seat → (seat < length s.order) × (place_of s seat ≡ place)
  pub first : (seat : ℕ) → seat < length s.order → before_of s seat ≡ None → Contains roots (place_of s seat)
  pub next : (seat before : ℕ) → before_of s seat ≡ Some before → (before < seat) × HasEdge edges (place_of s before) (place_of s seat)
  pub rising : (a b : ℕ) → a < b → b < length s.order → IsRising (before_of s a) (before_of s b) (place_of s a) (place_of s b)

-- whether the seat before is not after a limit
abbrev pub IsEarly : Option ℕ → ℕ → Type 0
IsEarly None limit = Unit {0}
IsEarly (Some before) limit = before ≤ limit

-- the roots have seats, and so have the places to which edges lead from the seats below a limit
pub record IsSearchTo (edges : List (List ℕ)) (roots : List ℕ) (limit : ℕ) (s : SearchValue) : Type 0 where
  pub is : IsSearch edges roots s
  pub all_roots : (root : ℕ) → Contains roots root → (seat : ℕ) × (seat_of s root ≡ Some seat) × (before_of s seat ≡ None)
  pub all_edges : (from to : ℕ) → from < limit → HasEdge edges (place_of s from) to
      → (seat : ℕ) × (seat_of s to ≡ Some seat) × IsEarly (before_of s seat) from
  pub bounded : (seat before : ℕ) → before_of s seat ≡ Some before → before < limit

-- a whole search
abbrev pub IsWhole : List (List ℕ) → List ℕ → SearchValue → Type 0
IsWhole edges roots s = IsSearchTo edges roots (length s.order) s

-- roots in order
abbrev pub Rise : List ℕ → Type 0
Rise roots = AllPairs (λ a b. a < b) roots

-- ---- paths

-- the path to the place at a seat, with at most this number of places
abbrev pub path_within : SearchValue → ℕ → ℕ → List ℕ
path_within s zero seat = []
path_within s (suc n) seat = option_map_or (path_within s n) (before_of s seat) [] ++ place_of s seat ∷ []

-- the path to the place at a seat; the seats before it are lower
abbrev pub path_at : SearchValue → ℕ → List ℕ
path_at s seat = path_within s (suc seat) seat

-- the path to the place at a seat, if there is a seat
abbrev pub path_if : SearchValue → Option ℕ → List ℕ
path_if s None = []
path_if s (Some seat) = path_at s seat

-- the path to a place, if the place is found
abbrev pub path_to : SearchValue → ℕ → Option (List ℕ)
path_to s place = option_map (path_at s) (seat_of s place)
