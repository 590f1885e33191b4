-- Places in a list of advisories, which the tables of a database hold. No public contract depends on these definitions.
use Rattle.std.specs.Prelude.{◌≡◌, ◌+◌, ℕ, Bool, false, List, [], ◌∷◌, None, Option, Some, if◌then◌else◌, nat_eq, slice_get}
use Rattle.std.specs.Cmp.Lexicographic.{pointwise}
use Rattle.std.specs.HashMap as hash
use Rattle.std.specs.HashMap.{HashMap}
use Rattle.std.specs.List.{filter_map, position_from}
use Rattle.semver.specs.Parse.{Parts}
use Rattle.rustsec_versions.specs.acceptance.Lists.{Lists, affected}
use Rattle.rustsec_versions.specs.ranges.Ranges.{is_until}
use Rattle.rustsec_lock.specs.Package.{PackageValue}
use Rattle.rustsec_texts.specs.IdOrder.{id_eq}
use Rattle.rustsec_texts.specs.Ids.{IdValue}
use Rattle.rustsec_advisory.specs.declared.advisory.Advisory.{Advisory}
use Rattle.rustsec_database.specs.Loaded.{has_id}
use Rattle.rustsec_database.specs.Slots.{slots_at}

-- the places of the elements for which a test holds; the first element is at the place i
abbrev pub places_from : {A : Type 0} → (A → Bool) → ℕ → List A → List ℕ
places_from test i [] = []
places_from test i (x ∷ xs) = if test x then i ∷ places_from test (i + 1) xs else places_from test (i + 1) xs

-- the elements at some places; a place out of range gives none
abbrev pub at_places : {A : Type 0} → List ℕ → List A → List A
at_places places xs = filter_map (slice_get xs) places

-- the table of IDs: it maps each ID to the place of its advisory
abbrev pub IsTableOf : {S : Type 0} → List Advisory → HashMap IdValue ℕ S → Type 0
IsTableOf advisories table = (id : IdValue) → hash.get id_eq table id ≡ position_from (has_id id) 0 advisories

-- whether a package has this name
abbrev pub is_named : List ℕ → PackageValue → Bool
is_named name p = pointwise nat_eq name p.name

-- the index of some packages: it maps each name to the places of its packages
abbrev pub IsIndexByName : List PackageValue → List (List ℕ × List ℕ) → Type 0
IsIndexByName packages index = (name : List ℕ) → slots_at name index ≡ places_from (is_named name) 0 packages

-- whether there is an element, and it passes a test
abbrev pub holds_at : {A : Type 0} → (A → Bool) → Option A → Bool
holds_at test None = false
holds_at test (Some x) = test x

-- whether there is a package at a place, and its version is affected
abbrev pub affects_at : Lists → List PackageValue → ℕ → Bool
affects_at versions packages place = holds_at (λ (p : PackageValue). affected versions p.version) (slice_get packages place)

-- whether there is a package at a place, and its version is below where a span ends
abbrev pub bears_at : Option Parts → List PackageValue → ℕ → Bool
bears_at fixed packages place = holds_at (λ (p : PackageValue). is_until fixed p.version) (slice_get packages place)
