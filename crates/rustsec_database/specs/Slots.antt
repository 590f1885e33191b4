-- Indexes: each name has some slots, which rise and have no duplicates.
use Rattle.std.specs.Prelude.{ℕ, ◌==◌, ◌<◌, List, [], ◌∷◌, Option, Some, None, if◌then◌else◌, nat_eq, nat_lt}
use Rattle.std.specs.Cmp.Lexicographic.{pointwise}
use Rattle.std.specs.List.{AllPairs}
use Rattle.std.specs.Map.{lookup}

-- each slot is below those after it
abbrev pub Rises : List ℕ → Type 0
Rises slots = AllPairs (λ m n. m < n) slots

-- rising slots with one more inserted, unless it is among them
abbrev pub with_slot : ℕ → List ℕ → List ℕ
with_slot n [] = n ∷ []
with_slot n (m ∷ ms) = if nat_lt n m then n ∷ m ∷ ms else (if n == m then m ∷ ms else m ∷ with_slot n ms)

-- the list, or the empty list if it is missing
abbrev pub or_none : Option (List ℕ) → List ℕ
or_none None = []
or_none (Some slots) = slots

-- the slots of a name in a list of names with their slots
abbrev pub slots_at : List ℕ → List (List ℕ × List ℕ) → List ℕ
slots_at name index = or_none (lookup (pointwise nat_eq name) index)

-- these slots, or `None` if the list is empty
abbrev pub where_any : List ℕ → Option (List ℕ)
where_any [] = None
where_any (n ∷ ns) = Some (n ∷ ns)
