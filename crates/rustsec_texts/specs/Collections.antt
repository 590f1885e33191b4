-- The collections of packages.
use Rattle.std.specs.Prelude.{ℕ, List, [], ◌∷◌, codes, Option}
use Rattle.std.specs.Ordering.{nat_cmp, on}
use Rattle.std.specs.declared.cmp.Ordering.{Ordering}
use Rattle.rustsec_texts.specs.declared.collection.Collection.{Collection}
use Rattle.rustsec_texts.specs.declared.collection.Collection.TheVariants as collection
use Rattle.rustsec_values.specs.ClosedTables.{from_name}

-- the name of a collection
abbrev pub collection_name : Collection → List ℕ
collection_name collection.Crates = codes "crates"
collection_name collection.Rust = codes "rust"

-- all collections, in their order
abbrev pub collections : List Collection
collections = collection.Crates ∷ collection.Rust ∷ []

-- the collection of a text, if it is the name of one
abbrev pub collection_of : List ℕ → Option Collection
collection_of = from_name collection_name collections

-- the place of a collection in the order
abbrev pub collection_place : Collection → ℕ
collection_place collection.Crates = 0
collection_place collection.Rust = 1

abbrev pub collection_cmp : Collection → Collection → Ordering
collection_cmp = on collection_place nat_cmp
