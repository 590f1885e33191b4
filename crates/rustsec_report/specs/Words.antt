-- The command that updates the vulnerable packages of a lockfile: `cargo update`, with packages named by Cargo's
-- package ID specifications.
use Rattle.std.specs.Prelude.{◌&&◌, ◌++◌, ℕ, Bool, false, true, List, [], ◌∷◌, Option, Some, None, codes, filter, map, nat_eq}
use Rattle.std.specs.Cmp.Lexicographic.{pointwise}
use Rattle.semver.specs.Identifiers.{parts_text}
use Rattle.rustsec_versions.specs.acceptance.Lists.{Lists, affected}
use Rattle.rustsec_lock.specs.Package.{PackageValue}
use Rattle.rustsec_lock.specs.Source.{Source, source_text}

-- the workspace to fix: the packages of a lockfile, the path of its manifest and that of Cargo, if given
pub record Workspace : Type 0 where
  pub packages : List PackageValue
  pub manifest_path : Option (List ℕ)
  pub path_to_cargo : Option (List ℕ)

-- the program: the given path of Cargo, or else its name
abbrev pub program_of : Option (List ℕ) → List ℕ
program_of None = codes "cargo"
program_of (Some path) = path

-- ---- the arguments

-- the manifest, if it is given
abbrev pub manifest_words : Option (List ℕ) → List (List ℕ)
manifest_words None = []
manifest_words (Some path) = codes "--manifest-path" ∷ path ∷ []

-- `--dry-run`, if requested
abbrev pub dry_run_words : Bool → List (List ℕ)
dry_run_words true = codes "--dry-run" ∷ []
dry_run_words false = []

-- the source of a package, before its name
abbrev pub source_part : Option Source → List ℕ
source_part None = []
source_part (Some s) = source_text s ++ codes "#"

-- a package: SOURCE#NAME@VERSION, or NAME@VERSION without a source
abbrev pub package_word : PackageValue → List ℕ
package_word p = source_part p.source ++ (p.name ++ (codes "@" ++ parts_text p.version))

-- whether a package has this name and a version that these lists leave affected
abbrev pub is_to_fix : List ℕ → Lists → PackageValue → Bool
is_to_fix name versions p = pointwise nat_eq p.name name && affected versions p.version

-- the arguments for the packages to update, in order
abbrev pub package_words : List ℕ → Lists → List PackageValue → List (List ℕ)
package_words name versions packages = map package_word (filter (is_to_fix name versions) packages)

-- all arguments, in order
abbrev pub fix_words : Workspace → Bool → List ℕ → Lists → List (List ℕ)
fix_words w dry_run name versions =
    codes "update" ∷ (manifest_words w.manifest_path ++ (dry_run_words dry_run ++ package_words name versions w.packages))
