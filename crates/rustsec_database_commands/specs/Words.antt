-- The commands of this crate, and the words that name them.
use Rattle.std.specs.Prelude.{ℕ, nat_eq, List, [], ◌∷◌, Option, Some, None, codes, if◌then◌else◌}
use Rattle.std.specs.Cmp.Lexicographic.{pointwise}

-- a command with its words, or the name of one with too few words after it
pub data Command : Type 0 where
  lint : List ℕ → List (List ℕ) → Command
  stats : List ℕ → List (List ℕ) → Command
  osv : List ℕ → List ℕ → List (List ℕ) → Command
  query : List ℕ → List ℕ → List ℕ → Command
  short : Command

-- `lint-database` has one path, and after it options
abbrev pub lint_of : List (List ℕ) → Command
lint_of [] = short
lint_of (root ∷ options) = lint root options

-- so has `stats`
abbrev pub stats_of : List (List ℕ) → Command
stats_of [] = short
stats_of (root ∷ options) = stats root options

-- `osv-database` has a path and a time, and after them options
abbrev pub osv_of : List (List ℕ) → Command
osv_of [] = short
osv_of (root ∷ []) = short
osv_of (root ∷ modified ∷ options) = osv root modified options

-- `query-osv` has a path, a name and a version
abbrev pub query_of : List (List ℕ) → Command
query_of (root ∷ name ∷ version ∷ []) = query root name version
query_of other = short

-- the command of a name and the words after it; `None` for another name
abbrev pub command_named : List ℕ → List (List ℕ) → Option Command
command_named name words =
    if pointwise nat_eq name (codes "lint-database") then Some (lint_of words)
    else if pointwise nat_eq name (codes "stats") then Some (stats_of words)
    else if pointwise nat_eq name (codes "osv-database") then Some (osv_of words)
    else if pointwise nat_eq name (codes "query-osv") then Some (query_of words)
    else None

-- the command that words name; `None` for other words
abbrev pub command_of : List (List ℕ) → Option Command
command_of [] = None
command_of (name ∷ words) = command_named name words
