-- The checks of the path of an advisory's file, and the advisory that the file is filed as.
use Rattle.std.specs.Prelude.{◌≡◌, ◌⊎◌, ◌||◌, ℕ, Bool, true, List, Option, Some, None, Result, Ok, Err, if◌then◌else◌, option_and_then}
use Rattle.std.specs.Str.{bytes_eq}
use denote.Enum.Bare.{sameb}
use Rattle.rustsec_files.specs.Paths.{folder, folder_parent, is_draft, is_markdown, is_markdown_file_of, passes}
use Rattle.rustsec_texts.specs.Collections.{collection_of}
use Rattle.rustsec_texts.specs.contracts.collection.Collection.{the_type as collection}
use Rattle.rustsec_texts.specs.declared.collection.Collection.{Collection}
use Rattle.rustsec_values.specs.declared.error.ErrorKind.{ErrorKind}
use Rattle.rustsec_values.specs.declared.error.ErrorKind.TheVariants as kind
use Rattle.rustsec_advisory.specs.Advisory.{IsAdvisory}
use Rattle.rustsec_advisory.specs.declared.advisory.Advisory.{Advisory}
use Rattle.rustsec_database.specs.declared.placement.PlacementError.{PlacementError}
use Rattle.rustsec_database.specs.declared.placement.PlacementError.TheVariants as fault

-- the kind of the error for a check that fails
abbrev pub kind_of : PlacementError → ErrorKind
kind_of fault.Extension = kind.Repo
kind_of fault.FileName = kind.Repo
kind_of fault.Folder = kind.Repo
kind_of fault.Parent = kind.Repo
kind_of fault.Collection = kind.Parse

-- the result of the further checks if this one holds; otherwise this one, as the check that fails
abbrev pub checked : {A : Type 0} → Bool → PlacementError → Result A PlacementError → Result A PlacementError
checked test failed further = if test then further else Err failed

-- the file is named after the ID, or it is a draft
abbrev pub is_named : List ℕ → List ℕ → Bool
is_named path id = is_markdown_file_of id path || is_draft path

-- the file is in a folder of this name
abbrev pub is_in_folder : List ℕ → List ℕ → Bool
is_in_folder path name = passes (bytes_eq name) (folder path)

-- the collection whose name the folder's parent has
abbrev pub collection_at : List ℕ → Option Collection
collection_at path = option_and_then collection_of (folder_parent path)

-- the advisory names this collection or none
abbrev pub agrees : Option Collection → Collection → Bool
agrees None c = true
agrees (Some named) c = sameb collection named c

-- the folder's collection if the advisory names it or none; otherwise the check that fails
abbrev pub agreed : Option Collection → Option Collection → Result Collection PlacementError
agreed named None = Err fault.Parent
agreed named (Some c) = checked (agrees named c) fault.Collection (Ok c)

-- the collection that the file of an advisory is in, or the first check of its path that fails
abbrev pub path_verdict : List ℕ → Advisory → Result Collection PlacementError
path_verdict path a =
    checked (is_markdown path) fault.Extension
    (checked (is_named path a.metadata.id.text) fault.FileName
    (checked (is_in_folder path a.metadata.«package») fault.Folder
    (agreed a.metadata.collection (collection_at path))))

-- an advisory with its collection set
abbrev pub placed_in : Collection → Advisory → Advisory
placed_in c a = record a { metadata = record a.metadata { collection = Some c } }

-- the file with this path and this text is filed as this advisory: that of the text, with the collection of the folder
pub record IsFiled (path text : List ℕ) (a : Advisory) : Type 0 where
  pub written : Advisory
  pub is_advisory : IsAdvisory text written
  pub collection : Collection
  pub verdict : path_verdict path written ≡ Ok collection
  pub is : a ≡ placed_in collection written

-- the text is not an advisory, or the path fails a check; the kind is that of the first failure
abbrev pub IsMisfiled : List ℕ → List ℕ → ErrorKind → Type 0
IsMisfiled path text k =
    ((k ≡ kind.Parse) × ((a : Advisory) → ¬ IsAdvisory text a))
    ⊎ ((a : Advisory) × (m : PlacementError) × (IsAdvisory text a × ((path_verdict path a ≡ Err m) × (k ≡ kind_of m))))
