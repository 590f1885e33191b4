-- What contracts see of a map from names to slots. Of these definitions, public contracts depend on `shown` only.
use Rattle.std.specs.Prelude.{◌<◌, ℕ, List, IfSome, length, map, nat_eq}
use Rattle.std.specs.Cmp.Lexicographic.{pointwise}
use Rattle.std.specs.HashMap as hash
use Rattle.std.specs.HashMap.{HashMap}
use Rattle.std.specs.declared.vec.Vec.{Vec}
use Rattle.rustsec_database.specs.Slots.{Rises}

-- the entries of a map, each vector seen as the list of its elements
abbrev pub shown : {Z : Type 0} → List (List ℕ × Vec ℕ Z) → List (List ℕ × List ℕ)
shown entries = map (λ e. (e.0, e.1.items)) entries

-- each name of a map has at least one slot, and its slots rise
abbrev pub AllRise : {Z S : Type 0} → HashMap (List ℕ) (Vec ℕ Z) S → Type 0
AllRise m = (name : List ℕ) → IfSome (hash.get (pointwise nat_eq) m name) (λ v. Rises v.items × (0 < length v.items))
