-- The order of a document's keys, in which the linter lists its lint errors.
use Rattle.std.specs.Prelude.{◌≡◌, ℕ, List, [], ◌∷◌, codes, true}
use Rattle.std.specs.Cmp.Lexicographic.{slice_cmp}
use Rattle.std.specs.List.{AllByRecursion}
use Rattle.std.specs.List.Sorted.{IsStrictlySortedBy}
use Rattle.std.specs.Map.{keys_of}
use Rattle.std.specs.Ordering.{nat_cmp}
use Rattle.toml.specs.Data.{Data, Members}
use Rattle.rustsec_advisory.specs.Affected.{members_of}
use Rattle.rustsec_advisory.specs.LintErrors.{is_one_of, members_in}

-- the keys of a table rise, by their bytes
abbrev pub KeysRise : List (List ℕ × Data) → Type 0
KeysRise members = IsStrictlySortedBy (slice_cmp nat_cmp) (keys_of members)

-- the sections whose keys the linter lists
abbrev pub sections : List (List ℕ)
sections = codes "advisory" ∷ codes "affected" ∷ codes "versions" ∷ []

-- the keys of a section rise
abbrev pub SectionRises : List ℕ × Data → Type 0
SectionRises entry = is_one_of sections entry.0 ≡ true → KeysRise (members_in entry.1)

-- the keys of a document rise, and those of each of its sections
abbrev pub DocumentRises : Members → Type 0
DocumentRises document = KeysRise (members_of document) × AllByRecursion SectionRises (members_of document)
