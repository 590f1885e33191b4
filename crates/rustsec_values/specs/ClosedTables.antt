-- Closed tables: finitely many values, each with a name.
use Rattle.std.specs.Prelude.{ℕ, List, Option}
use Rattle.std.specs.List.{find}
use Rattle.std.specs.Str.{bytes_eq}

-- the first of some values whose name is this text, if any
abbrev pub from_name : {A : Type 0} → (A → List ℕ) → List A → List ℕ → Option A
from_name name values text = find (λ x. bytes_eq (name x) text) values
