-- The notes on what a check looks at.
use Rattle.std.specs.Prelude.{◌++◌, ◌==◌, ◌&&◌, not, ℕ, Bool, true, false, if◌then◌else◌, List, [], ◌∷◌, Option, None, Some, codes, map, slice_index_or}
use Rattle.std.specs.List.{enumerate_from, flat_map, list_any}
use Rattle.semver.specs.Identifiers.{parts_text}
use Rattle.rustsec_lock.specs.Package.{PackageValue}
use Rattle.rustsec_lock.specs.Source.{Source, is_default}
use Rattle.rustsec_lock.specs.declared.source.SourceKind.{SourceKind}
use Rattle.rustsec_lock.specs.declared.source.SourceKind.TheVariants as kind
use Rattle.rustsec_texts.specs.Informational.{informational_name, is_other_kind}
use Rattle.rustsec_texts.specs.declared.informational.Informational.{Informational}

-- a note, if it applies
abbrev pub note_if : Bool → List ℕ → List (List ℕ)
note_if applies note = if applies then note ∷ [] else []

-- the note on a kind of informational advisories that gives no warnings, since its name is not known
unfoldable pub unknown_kind : Informational → List ℕ
unknown_kind kind = codes "`" ++ (informational_name kind ++ codes "` at `informational_warnings` is not a kind that gives warnings")

abbrev pub kind_note : Informational → List (List ℕ)
kind_note kind = note_if (is_other_kind kind) (unknown_kind kind)

-- the notes on the kinds of informational advisories that are asked for
abbrev pub kind_notes : List Informational → List (List ℕ)
kind_notes kinds = flat_map kind_note kinds

-- the notes on a database and a lockfile, by how many advisories and packages they have
abbrev pub empty_notes : ℕ → ℕ → List (List ℕ)
empty_notes advisories packages =
    note_if (advisories == 0) (codes "the database has no advisory") ++ note_if (packages == 0) (codes "the lockfile has no package")

-- whether a kind of source is a sparse index
abbrev pub is_sparse : SourceKind → Bool
is_sparse kind.Registry = false
is_sparse kind.SparseRegistry = true
is_sparse kind.Git = false
is_sparse kind.Path = false
is_sparse kind.LocalRegistry = false
is_sparse kind.Directory = false

-- whether a source, if any, is not the default registry
abbrev pub is_other_source : Option Source → Bool
is_other_source None = false
is_other_source (Some s) = not (is_default s)

-- whether a source, if any, is the sparse index of the default registry
abbrev pub is_sparse_source : Option Source → Bool
is_sparse_source None = false
is_sparse_source (Some s) = is_sparse s.kind && is_default s

-- whether a package has a source that is not the default registry, or is from its sparse index
unfoldable pub is_from_elsewhere : PackageValue → Bool
is_from_elsewhere p = is_other_source p.source

unfoldable pub is_from_sparse : PackageValue → Bool
is_from_sparse p = is_sparse_source p.source

-- the notes on packages from elsewhere, which are not audited, and on those from the sparse index
abbrev pub source_notes : List PackageValue → List (List ℕ)
source_notes packages =
    note_if (list_any is_from_elsewhere packages) (codes "some packages are not from the default registry, and are not audited")
    ++ note_if (list_any is_from_sparse packages)
    (codes "some packages are from the sparse index of the default registry, which advisories without a source do not match")

-- the note on a dependency entry of a package that names no package of the lockfile, or several
unfoldable pub dependency_note : PackageValue → List ℕ → List ℕ
dependency_note p entry =
    p.name ++ (codes " " ++ (parts_text p.version ++ (codes ": dependency `" ++ (entry ++ codes "` names no package, or several"))))

-- the notes on such entries of the package at a place, in their order
abbrev pub dependency_notes_at : List (List (List ℕ)) → ℕ × PackageValue → List (List ℕ)
dependency_notes_at entries placed = map (dependency_note placed.1) (slice_index_or entries placed.0 [])

-- the notes on all packages, in order
abbrev pub dependency_notes : List PackageValue → List (List (List ℕ)) → List (List ℕ)
dependency_notes packages entries = flat_map (dependency_notes_at entries) (enumerate_from 0 packages)
