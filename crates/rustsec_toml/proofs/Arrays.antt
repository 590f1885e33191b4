-- Reading the values of a TOML array in a loop.
use Rattle.std.proofs.Common.{◌≡◌, ℕ, ◌+◌, ◌<◌, List, [], ◌∷◌, ◌++◌, length, get_or, take, map, Option, Some, None, refl, ap}
use Rattle.toml.specs.Data.{Data}
use Rattle.toml.specs.View.{items_view, view}
use Rattle.toml.specs.declared.value.Value.{Value}
use Rattle.rustsec_values.specs.Reading.{read_all}
use Rattle.rustsec_values.proofs.Readers.{read_all-nil, read_map-more, read_map-stop}
use Rattle.rustsec_toml.specs.Fields.{list_of}

-- the items of an array are the data of its values
pub list_of-view : (vs : List Value) → list_of (items_view vs) ≡ map view vs
list_of-view [] = refl
list_of-view (v ∷ vs) = ap (λ ds. view v ∷ ds) (list_of-view vs)

module _ {B : Type 0} (f : Data → Option B) where
  pub items_start : read_all f (list_of (items_view [])) ≡ Some []
  items_start = read_all-nil f

  pub items_more : (vs : List Value) (i : ℕ) (v : Value) (ys : List B) (y : B) → i < length vs → v ≡ get_or vs i v
      → read_all f (list_of (items_view (take i vs))) ≡ Some ys → f (view v) ≡ Some y
      → read_all f (list_of (items_view (take (i + 1) vs))) ≡ Some (ys ++ y ∷ [])
  items_more vs i v ys y l at h e =
      rw (list_of-view (take (i + 1) vs)) (read_map-more view f vs i v ys y l at (rw (list_of-view (take i vs)) at h) e)

  pub items_stop : (vs : List Value) (i : ℕ) (v : Value) → i < length vs → v ≡ get_or vs i v → f (view v) ≡ None
      → read_all f (list_of (items_view vs)) ≡ None
  items_stop vs i v l at e = rw (list_of-view vs) (read_map-stop view f vs i v l at e)
