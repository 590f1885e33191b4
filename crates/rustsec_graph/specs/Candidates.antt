-- What an entry is compared with for each package. In Cargo.lock an entry is `name`, `name version` or
-- `name version (source)`.
use Rattle.std.specs.Prelude.{◌++◌, ◌-◌, ◌==◌, ℕ, Bool, if◌then◌else◌, List, [], ◌∷◌, Option, Some, None, codes, is_none, length, map, nat_eq, take}
use Rattle.std.specs.List.{before_last, ends_with, list_any}
use Rattle.semver.specs.Identifiers.{parts_text}
use Rattle.toml.specs.Data.{Members, get_member}
use Rattle.rustsec_lock.specs.Package.{PackageValue}
use Rattle.rustsec_lock.specs.Source.{Source, source_text}

-- a package for entries: its name and version, the entries that fit it, and whether it is local, without a source
pub record Candidate : Type 0 where
  pub release : List ℕ
  pub texts : List (List ℕ)
  pub is_local : Bool

-- a package's name and version
abbrev pub with_version : PackageValue → List ℕ
with_version p = p.name ++ (codes " " ++ parts_text p.version)

-- a package's name and version, and the text of a source in parentheses
abbrev pub with_source : PackageValue → List ℕ → List ℕ
with_source p source = p.name ++ (codes " " ++ (parts_text p.version ++ (codes " (" ++ (source ++ codes ")"))))

-- whether a byte is a number sign
abbrev pub is_number_sign : ℕ → Bool
is_number_sign b = b == 35

-- the text of a source without its precise part, which Cargo leaves out of entries: a git source's commit after the
-- last `#`; a branch may contain that sign too
abbrev pub without_precise : List ℕ → List ℕ
without_precise source = if list_any is_number_sign source then before_last is_number_sign source else source

-- the branch that entries of old lockfiles leave out
abbrev pub master : List ℕ
master = codes "?branch=master"

abbrev pub without_master : List ℕ → List ℕ
without_master source = if ends_with nat_eq source master then take (length source - length master) source else source

-- whether a lockfile is old: without a key `version`, which Cargo writes from version 3 on
abbrev pub is_old : Members → Bool
is_old ms = is_none (get_member (codes "version") ms)

-- the text of a source in entries, by whether the lockfile is old
abbrev pub in_entries : Bool → List ℕ → List ℕ
in_entries old source = if old then without_master (without_precise source) else without_precise source

-- the entries with a source that fit a package from a source: its name and version with the source, in full, without
-- its precise part, or as entries of the lockfile have it
abbrev pub source_texts : Bool → PackageValue → Option Source → List (List ℕ)
source_texts old p None = []
source_texts old p (Some s) =
    with_source p (source_text s) ∷ with_source p (without_precise (source_text s)) ∷ with_source p (in_entries old (source_text s)) ∷ []

-- the entries that fit a package from a source: its name, its name and version, and those with the source
abbrev pub texts_from : Bool → PackageValue → Option Source → List (List ℕ)
texts_from old p source = p.name ∷ with_version p ∷ source_texts old p source

abbrev pub texts_of : Bool → PackageValue → List (List ℕ)
texts_of old p = texts_from old p p.source

-- a package for entries
abbrev pub candidate_of : Bool → PackageValue → Candidate
candidate_of old p = record {
  release = with_version p;
  texts = texts_of old p;
  is_local = is_none p.source;
}

-- the packages of a lockfile for its entries
abbrev pub candidates : Members → List PackageValue → List Candidate
candidates ms packages = map (candidate_of (is_old ms)) packages
