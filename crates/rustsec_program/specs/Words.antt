-- The commands of this crate, and the words that name them.
use Rattle.std.specs.Prelude.{ℕ, nat_eq, List, [], ◌∷◌, Option, Some, None, codes, if◌then◌else◌}
use Rattle.std.specs.Cmp.Lexicographic.{pointwise}

-- a command with its words, or the name of one with too few words after it
pub data Command : Type 0 where
  check : List ℕ → List ℕ → List (List ℕ) → Command
  many : List ℕ → List (List ℕ) → Command
  explain : List ℕ → List ℕ → List ℕ → List (List ℕ) → Command
  short : Command

-- `check` has two paths, and after them options
abbrev pub check_of : List (List ℕ) → Command
check_of [] = short
check_of (root ∷ []) = short
check_of (root ∷ lock ∷ options) = check root lock options

-- `check-many` has one path, and after it options
abbrev pub many_of : List (List ℕ) → Command
many_of [] = short
many_of (root ∷ options) = many root options

-- `explain` has two paths and an ID or a name, and after them options
abbrev pub explain_of : List (List ℕ) → Command
explain_of [] = short
explain_of (root ∷ []) = short
explain_of (root ∷ lock ∷ []) = short
explain_of (root ∷ lock ∷ text ∷ options) = explain root lock text options

-- the command that words name; `None` for other words
abbrev pub command_of : List (List ℕ) → Option Command
command_of [] = None
command_of (word ∷ words) =
    if pointwise nat_eq word (codes "check") then Some (check_of words)
    else if pointwise nat_eq word (codes "check-many") then Some (many_of words)
    else if pointwise nat_eq word (codes "explain") then Some (explain_of words)
    else None
