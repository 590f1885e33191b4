-- Reading a TOML array in a loop that appends the result for each value.
use Rattle.std.proofs.Common.{◌≡◌, ◌∙◌, ℕ, ◌+◌, ◌<◌, List, [], ◌∷◌, ◌++◌, length, get_or, take, Option, Some, None, option_map, refl}
use Rattle.toml.specs.Data.{Data}
use Rattle.toml.specs.View.{items_view, view}
use Rattle.toml.specs.declared.value.Value.{Value}
use Rattle.rustsec_values.specs.Reading.{read_all}
use Rattle.rustsec_toml.specs.Fields.{list_of}
use Rattle.rustsec_toml.proofs.Arrays.{items_more}

module _ {B : Type 0} (f : Data → Option B) where
  one-more : (vs : List Value) (i : ℕ) (v : Value) (ys zs : List B) (o : Option B) → i < length vs → v ≡ get_or vs i v
      → read_all f (list_of (items_view (take i vs))) ≡ Some ys → f (view v) ≡ o → option_map (λ y. ys ++ y ∷ []) o ≡ Some zs
      → read_all f (list_of (items_view (take (i + 1) vs))) ≡ Some zs
  one-more vs i v ys zs None l at h e grown = cc grown
  one-more vs i v ys zs (Some y) l at h e grown = items_more f vs i v ys y l at h e ∙ grown

  -- the next value of an array, in a loop that appends the result for each value
  pub array-grown : (vs : List Value) (i : ℕ) (v : Value) (ys zs : List B) → i < length vs → v ≡ get_or vs i v
      → read_all f (list_of (items_view (take i vs))) ≡ Some ys → option_map (λ y. ys ++ y ∷ []) (f (view v)) ≡ Some zs
      → read_all f (list_of (items_view (take (i + 1) vs))) ≡ Some zs
  array-grown vs i v ys zs l at h grown = one-more vs i v ys zs (f (view v)) l at h refl grown
