-- Which keys of a document the reader of advisories asks for, and that the linter calls all others unknown.
use Rattle.std.specs.Prelude.{◌≡◌, ◌⊎◌, ℕ, ℤ, Bool, List, [], ◌∷◌, Option, Some, None, codes}
use Rattle.std.specs.List.{Contains}
use Rattle.toml.specs.Data.{Data, Members, get_member, integer}
use Rattle.rustsec_advisory.specs.Advisory.{AreVersions, IsOfDocument}
use Rattle.rustsec_advisory.specs.Affected.{IsAffected}
use Rattle.rustsec_advisory.specs.LintErrors.{LintError, advisory_rows, affected_rows, top_rows, unknown_key, versions_rows}
use Rattle.rustsec_advisory.specs.Metadata.{IsMetadata}
use Rattle.rustsec_advisory.specs.declared.advisory.Advisory.{Advisory}
use Rattle.rustsec_advisory.specs.declared.metadata.Metadata.{Metadata}

-- two tables have the same value at each other key
abbrev pub AreSameBut : List ℕ → Members → Members → Type 0
AreSameBut key t u = (k : List ℕ) → ¬ (k ≡ key) → get_member k t ≡ get_member k u

-- no reader asks for a key: tables that are the same except at this key have the same readings
abbrev pub IsUnread : {A : Type 0} → (Members → A → Type 0) → List ℕ → Type 0
IsUnread {A} Reads key = (t u : Members) (x : A) → AreSameBut key t u → Reads t x → Reads u x

-- a reader asks for a key: a table with a number at this key has no reading
abbrev pub IsRead : {A : Type 0} → (Members → A → Type 0) → List ℕ → Type 0
IsRead {A} Reads key = (t : Members) (n : ℤ) (x : A) → get_member key t ≡ Some (integer n) → ¬ Reads t x

-- no reader asks for a key, and its one row calls it unknown
abbrev pub IsUnknown : {A : Type 0} → (Members → A → Type 0) → Option (List ℕ) → List ℕ → List LintError → Type 0
IsUnknown Reads section key rows = IsUnread Reads key × (rows ≡ unknown_key section key ∷ [])

-- a reader asks for a key, and none of its rows calls it unknown
abbrev pub IsKnown : {A : Type 0} → (Members → A → Type 0) → Option (List ℕ) → List ℕ → List LintError → Type 0
IsKnown Reads section key rows = IsRead Reads key × (¬ Contains rows (unknown_key section key))

-- the readings of the table `advisory` and of the document, with the title and the description of the advisory
abbrev pub ReadsMetadata : Members → Metadata → Type 0
ReadsMetadata table m = IsMetadata table m.title m.description m

abbrev pub ReadsAdvisory : Members → Advisory → Type 0
ReadsAdvisory document a = IsOfDocument document a.metadata.title a.metadata.description a

-- the deprecated key of the table `advisory`: no reader asks for it, and none of its rows calls it unknown
abbrev pub IsDeprecated : List ℕ → List LintError → Type 0
IsDeprecated key rows =
    (key ≡ codes "yanked") × (IsUnread ReadsMetadata key × (¬ Contains rows (unknown_key (Some (codes "advisory")) key)))

-- the rows of each key, with any value, call it unknown exactly if no reader asks for it, except the deprecated key
pub record AreKeysKnown (draft : Option Bool) (a : Advisory) : Type 0 where
  pub advisory : (key : List ℕ) (d : Data)
      → IsUnknown ReadsMetadata (Some (codes "advisory")) key (advisory_rows draft a.metadata (key, d))
      ⊎ (IsKnown ReadsMetadata (Some (codes "advisory")) key (advisory_rows draft a.metadata (key, d))
      ⊎ IsDeprecated key (advisory_rows draft a.metadata (key, d)))
  pub affected : (key : List ℕ)
      → IsUnknown IsAffected (Some (codes "affected")) key (affected_rows a key)
      ⊎ IsKnown IsAffected (Some (codes "affected")) key (affected_rows a key)
  pub versions : (key : List ℕ)
      → IsUnknown AreVersions (Some (codes "versions")) key (versions_rows key)
      ⊎ IsKnown AreVersions (Some (codes "versions")) key (versions_rows key)
  pub top : (key : List ℕ) (d : Data)
      → IsUnknown ReadsAdvisory None key (top_rows draft a (key, d)) ⊎ IsKnown ReadsAdvisory None key (top_rows draft a (key, d))
