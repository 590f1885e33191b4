-- The result of loading files: their advisories, or the first fault.
use Rattle.std.specs.Prelude.{◌≡◌, ◌⊎◌, ◌++◌, ◌∷◌, [], ℕ, Bool, true, false, List, Option, Some, None, codes, if◌then◌else◌, length, not}
use Rattle.std.specs.List.{All, AllPairs, AllZip, filter, list_any}
use Rattle.rustsec_values.specs.Failure.{Failure, IsMemory}
use Rattle.rustsec_values.specs.declared.error.ErrorKind.{ErrorKind}
use Rattle.rustsec_values.specs.declared.error.ErrorKind.TheVariants as kind
use Rattle.rustsec_texts.specs.IdOrder.{id_eq}
use Rattle.rustsec_texts.specs.Ids.{IdValue, is_placeholder}
use Rattle.rustsec_advisory.specs.declared.advisory.Advisory.{Advisory}
use Rattle.rustsec_database.specs.Placement.{IsFiled, IsMisfiled}
use Rattle.rustsec_files.specs.declared.source_file.SourceFile.{SourceFile}

-- an advisory is stored unless its ID is the placeholder
abbrev pub is_stored : Advisory → Bool
is_stored a = not (is_placeholder a.metadata.id.text)

-- whether an advisory has this ID
abbrev pub has_id : IdValue → Advisory → Bool
has_id id a = id_eq id a.metadata.id

-- whether the ID of an advisory is among those of others
abbrev pub is_known : List Advisory → Advisory → Bool
is_known others a = list_any (has_id a.metadata.id) others

-- no two advisories have the same ID
abbrev pub HaveOwnIds : List Advisory → Type 0
HaveOwnIds advisories = AllPairs (λ a b. has_id b.metadata.id a ≡ false) advisories

-- an advisory is the only one of a list with an ID
abbrev pub IsOnlyWithId : IdValue → List Advisory → Advisory → Type 0
IsOnlyWithId id advisories a = All (λ b. has_id id b ≡ true → b ≡ a) advisories

-- each file is filed as the advisory at the same place
abbrev pub AreFiled : List SourceFile → List Advisory → Type 0
AreFiled files advisories = AllZip (λ (f : SourceFile) a. IsFiled f.path f.text a) files advisories

-- no file is at fault, and these are the advisories of all files, in the order of the files, without those whose ID is the placeholder
pub record AreLoaded (files : List SourceFile) (loaded : List Advisory) : Type 0 where
  pub all : List Advisory
  pub are_filed : AreFiled files all
  pub loaded_are : loaded ≡ filter is_stored all
  pub own_ids : HaveOwnIds loaded

-- a file is at fault after these advisories are loaded: it is misfiled, or its ID is that of one of them
abbrev pub IsAtFault : List Advisory → List ℕ → List ℕ → ErrorKind → Type 0
IsAtFault loaded path text k =
    IsMisfiled path text k
    ⊎ ((a : Advisory) × (IsFiled path text a × ((is_stored a ≡ true) × ((is_known loaded a ≡ true) × (k ≡ kind.Parse)))))

-- the refusal of a file at fault, whose message names the path; or out of memory
abbrev pub IsFault : List Advisory → List ℕ → List ℕ → Failure → Type 0
IsFault loaded path text e = (IsAtFault loaded path text e.kind × (e.message ≡ codes "error parsing " ++ path)) ⊎ IsMemory e

-- the refusal of the first file at fault
pub record IsFirstFault (files : List SourceFile) (e : Failure) : Type 0 where
  pub good : List SourceFile
  pub bad : SourceFile
  pub rest : List SourceFile
  pub files_are : files ≡ good ++ bad ∷ rest
  pub loaded : List Advisory
  pub are_loaded : AreLoaded good loaded
  pub fault : IsAtFault loaded bad.path bad.text e.kind
  pub names : e.message ≡ codes "error parsing " ++ bad.path

-- the loaded advisories after one more, which is left out if its ID is the placeholder
abbrev pub with_one : List Advisory → Advisory → List Advisory
with_one loaded a = if is_stored a then loaded ++ a ∷ [] else loaded

-- the place of one more advisory, or `None` if its ID is the placeholder
abbrev pub place_of_one : List Advisory → Advisory → Option ℕ
place_of_one loaded a = if is_stored a then Some (length loaded) else None

-- a file is without fault after these advisories are loaded: the place of its advisory, and the advisories with it
pub record IsAdded (loaded : List Advisory) (path text : List ℕ) (place : Option ℕ) (more : List Advisory) : Type 0 where
  pub one : Advisory
  pub is_filed : IsFiled path text one
  pub is_new : is_stored one ≡ true → is_known loaded one ≡ false
  pub place_is : place ≡ place_of_one loaded one
  pub more_are : more ≡ with_one loaded one
