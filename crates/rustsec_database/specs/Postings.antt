-- Postings: the entries of a database's index for its advisories. No public contract depends on these definitions.
use Rattle.std.specs.Prelude.{◌≡◌, ◌&&◌, ◌==◌, ◌+◌, ◌%◌, ◌<◌, ℕ, Bool, List, [], ◌∷◌, Option, Some, if◌then◌else◌, length, slice_get, slice_index_or}
use Rattle.std.specs.Hash.FoldHasher as folding
use Rattle.semver.specs.Parse.{Parts}
use Rattle.rustsec_versions.specs.ranges.Ranges.{Range, in_range}
use Rattle.rustsec_advisory.specs.declared.advisory.Advisory.{Advisory}
use Rattle.rustsec_database.specs.Selects.{if_there}
use Rattle.rustsec_database.specs.Spans.{span_of}

-- the digest of a name, which different names may share
unfoldable pub digest : List ℕ → ℕ
digest name = folding.finish (folding.write folding.initial name)

-- the posting of an advisory at a place: the digest of its package's name, the place, and its span
abbrev pub posting_of : ℕ → Advisory → ℕ × ℕ × Range
posting_of i a = (digest a.metadata.«package», i, span_of a.versions)

-- the postings of the advisories for which a test holds; the first advisory is at the place i
abbrev pub postings_from : (Advisory → Bool) → ℕ → List Advisory → List (ℕ × ℕ × Range)
postings_from test i [] = []
postings_from test i (a ∷ rest) = if test a then posting_of i a ∷ postings_from test (i + 1) rest else postings_from test (i + 1) rest

-- whether a posting has this digest, and its span holds this version, if one is asked for
abbrev pub is_near : ℕ → Option Parts → ℕ × ℕ × Range → Bool
is_near number version p = p.0 == number && if_there (λ v. in_range p.2 v) version

-- whether the digest of an advisory's name has this remainder by the number of lists
abbrev pub is_listed : ℕ → ℕ → Advisory → Bool
is_listed count place a = digest a.metadata.«package» % count == place

-- each of these lists has the postings of the advisories whose digests have its place as their remainder
abbrev pub HaveListed : List Advisory → List (List (ℕ × ℕ × Range)) → Type 0
HaveListed advisories lists =
    (place : ℕ) → place < length lists → slice_index_or lists place [] ≡ postings_from (is_listed (length lists) place) 0 advisories

-- the index of some advisories: one or more such lists
abbrev pub IsIndexOf : List Advisory → List (List (ℕ × ℕ × Range)) → Type 0
IsIndexOf advisories lists = (0 < length lists) × HaveListed advisories lists

-- the postings whose digests have the remainder of this digest by some number
abbrev pub AreListed : ℕ → List Advisory → List (ℕ × ℕ × Range) → Type 0
AreListed number advisories postings = (count : ℕ) × (postings ≡ postings_from (is_listed count (number % count)) 0 advisories)

-- a posting is that of the advisory at its place, if any
abbrev pub IsPostingAmong : List Advisory → ℕ × ℕ × Range → Type 0
IsPostingAmong advisories p = (a : Advisory) → Some a ≡ slice_get advisories p.1 → p ≡ posting_of p.1 a
