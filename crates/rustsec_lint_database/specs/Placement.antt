-- Whether the file of an advisory is where the advisory belongs.
use Rattle.std.specs.Prelude.{◌≡◌, ◌↔◌, ℕ, ◌++◌, ◌&&◌, List, ◌∷◌, [], Ok, Option, None, Some, codes}
use Rattle.rustsec_files.specs.Paths.{is_markdown}
use Rattle.rustsec_texts.specs.Collections.{collection_name}
use Rattle.rustsec_texts.specs.declared.collection.Collection.{Collection}
use Rattle.rustsec_advisory.specs.declared.advisory.Advisory.{Advisory}
use Rattle.rustsec_database.specs.Placement.{agrees, collection_at, is_in_folder, is_named, path_verdict}
use Rattle.rustsec_lint_database.specs.Remarks.{remark, unless}
use Rattle.rustsec_lint_database.specs.declared.remark.Remark.{Remark}
use Rattle.rustsec_lint_database.specs.declared.remark.RemarkKind.TheVariants as kind

-- the file is named after the ID, or is a draft's
abbrev pub name_remarks : List ℕ → Advisory → List Remark
name_remarks path a =
    unless (is_markdown path && is_named path a.metadata.id.text) kind.Misplaced
    (codes "another file name, expected `" ++ (a.metadata.id.text ++ codes ".md`"))

-- the folder is named after the package
abbrev pub folder_remarks : List ℕ → Advisory → List Remark
folder_remarks path a =
    unless (is_in_folder path a.metadata.«package») kind.Misplaced
    (codes "another folder, expected `" ++ (a.metadata.«package» ++ codes "`, the package"))

-- the folder is in a collection, which is the one that the advisory names, if any
abbrev pub collection_remarks : Option Collection → Option Collection → List Remark
collection_remarks named None = remark kind.Misplaced (codes "the folder is in no collection, expected `crates` or `rust`") ∷ []
collection_remarks named (Some c) =
    unless (agrees named c) kind.Misplaced (codes "another `collection` in [advisory], expected `" ++ (collection_name c ++ codes "`"))

-- the remarks on the place of an advisory's file
abbrev pub placement_remarks : List ℕ → Advisory → List Remark
placement_remarks path a =
    name_remarks path a ++ (folder_remarks path a ++ collection_remarks a.metadata.collection (collection_at path))

-- the place of an advisory's file has no remark exactly if loading a database accepts it
abbrev pub HasNone : List ℕ → Advisory → Type 0
HasNone path a = (placement_remarks path a ≡ []) ↔ ((c : Collection) × (path_verdict path a ≡ Ok c))
