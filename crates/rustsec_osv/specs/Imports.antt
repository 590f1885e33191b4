-- The crates that a document names, and the IDs of RustSec's advisories that it refers to. It carries meaning: public
-- contracts cite it.
use Rattle.std.specs.Prelude.{◌↔◌, ℕ, Bool, Contains, List, codes, drop, filter, length, map, nat_eq, nat_le, Option, Some, take}
use Rattle.std.specs.Cmp.Lexicographic.{pointwise}
use Rattle.std.specs.List.{starts_with}
use Rattle.std.specs.List.Sorted.{IsStrictlySortedBy}
use Rattle.std.specs.declared.cmp.Ordering.{Ordering}
use Rattle.rustsec_texts.specs.Ids.{IdValue, id_of}
use Rattle.rustsec_values.specs.Reading.{◌>>=◌, only_if, read_all}
use Rattle.rustsec_osv.specs.declared.affected.OsvAffected.{OsvAffected}
use Rattle.rustsec_osv.specs.declared.reference.OsvReference.{OsvReference}

-- the distinct values of a list, in an order: they rise, and are the same values
pub record AreDistinct {A : Type 0} (order : A → A → Ordering) (values distinct : List A) : Type 0 where
  pub rise : IsStrictlySortedBy order distinct
  pub same : (x : A) → Contains distinct x ↔ Contains values x

-- ---- crates

-- whether a package is one of the ecosystem `crates.io`
abbrev pub is_crate : OsvAffected → Bool
is_crate a = pointwise nat_eq a.package.ecosystem (codes "crates.io")

-- the names of the affected packages of that ecosystem
abbrev pub crate_names : List OsvAffected → List (List ℕ)
crate_names affected = map (λ a. a.package.name) (filter is_crate affected)

-- ---- imported IDs

-- whether an address begins as those of RustSec's advisories do
abbrev pub is_page : List ℕ → Bool
is_page address = starts_with nat_eq address (codes "https://rustsec.org/advisories/")

-- the 17 bytes after that beginning, which has 31 bytes, if there are 17
abbrev pub linked_text : List ℕ → Option (List ℕ)
linked_text address = only_if (nat_le 48 (length address)) (Some (take 17 (drop 31 address)))

-- the ID in the address of a page
abbrev pub linked_id : List ℕ → Option IdValue
linked_id address = linked_text address >>= id_of

-- the IDs of the references that are such pages, if each is an ID
abbrev pub linked_ids : List OsvReference → Option (List IdValue)
linked_ids references = read_all (λ r. linked_id r.url) (filter (λ r. is_page r.url) references)
