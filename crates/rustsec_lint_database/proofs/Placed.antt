-- The place of a file has no remark exactly if loading a database accepts it.
use Rattle.std.proofs.Common.{◌≡◌, ◌++◌, ℕ, Bool, true, false, List, [], Ok, Option, None, Some, refl}
use Rattle.std.specs.Prelude.{◌↔◌, ◌&&◌, Err, Result, if◌then◌else◌}
use Rattle.rustsec_texts.specs.declared.collection.Collection.{Collection}
use Rattle.rustsec_advisory.specs.declared.advisory.Advisory.{Advisory}
use Rattle.rustsec_files.specs.Paths.{is_markdown}
use Rattle.rustsec_database.specs.Placement.{agreed, agrees, collection_at, is_in_folder, is_named}
use Rattle.rustsec_lint_database.specs.Placement.{HasNone, collection_remarks}
use Rattle.rustsec_lint_database.specs.Remarks.{unless}
use Rattle.rustsec_lint_database.specs.declared.remark.Remark.{Remark}
use Rattle.rustsec_lint_database.specs.declared.remark.RemarkKind.TheVariants as kind

-- answers of loading, for any names of its checks
module _ {M : Type 0} where
  -- the answer after a check: that of the further checks if it passes
  abbrev after : Bool → M → Result Collection M → Result Collection M
  after passes m r = if passes then r else Err m

  -- the collection of the folder, with the answer whether the advisory agrees
  agreed-none : (b : Bool) (c : Collection) (words : List ℕ) (m : M) → (unless b kind.Misplaced words ≡ []) ↔ ((d : Collection) × (after b m (Ok c) ≡ Ok d))
  agreed-none true c words m = (λ h. (c, refl), λ h. refl)
  agreed-none false c words m = (λ h. absurd (cc h), λ h. absurd (cc h.1))

  none : (markdown named folder : Bool) (first second : List ℕ) (third : List Remark) (p q r : M) (last : Result Collection M)
      → ((third ≡ []) ↔ ((d : Collection) × (last ≡ Ok d)))
      → ((unless (markdown && named) kind.Misplaced first ++ (unless folder kind.Misplaced second ++ third)) ≡ [])
      ↔ ((d : Collection) × (after markdown p (after named q (after folder r last)) ≡ Ok d))
  none true true true first second third p q r last rest = rest
  none true true false first second third p q r last rest = (λ h. absurd (cc h), λ h. absurd (cc h.1))
  none true false folder first second third p q r last rest = (λ h. absurd (cc h), λ h. absurd (cc h.1))
  none false named folder first second third p q r last rest = (λ h. absurd (cc h), λ h. absurd (cc h.1))

collection-none : (named at : Option Collection) → (collection_remarks named at ≡ []) ↔ ((d : Collection) × (agreed named at ≡ Ok d))
collection-none named None = (λ h. absurd (cc h), λ h. absurd (cc h.1))
collection-none named (Some c) = agreed-none (agrees named c) c _ _

pub has_none : (path : List ℕ) (a : Advisory) → HasNone path a
has_none path a =
    none (is_markdown path) (is_named path a.metadata.id.text) (is_in_folder path a.metadata.«package») _ _ _ _ _ _ _
    (collection-none a.metadata.collection (collection_at path))
