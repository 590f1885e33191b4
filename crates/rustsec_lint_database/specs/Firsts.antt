-- The table of the first files with each ID, for the functions that linting calls. No public contract depends on these definitions.
use Rattle.std.specs.Prelude.{◌≡◌, ℕ, suc, ◌++◌, ◌∷◌, [], List, Option, None, Some, cond, map, option_map, slice_get}
use Rattle.std.specs.BTreeMap as tree
use Rattle.std.specs.BTreeMap.{BTreeMap}
use Rattle.rustsec_texts.specs.IdOrder.{id_order}
use Rattle.rustsec_texts.specs.Ids.{IdValue}
use Rattle.rustsec_lint_database.specs.Entries.{first_with, has_id}
use Rattle.rustsec_lint_database.specs.declared.database.Entry.{Entry}
use Rattle.rustsec_lint_database.specs.declared.file.FileLint.{FileLint}

-- the file of an entry
abbrev pub file_of : Entry → FileLint
file_of e = e.file

-- the path of the file of the entry at an index, if any
abbrev pub path_at : List Entry → ℕ → Option (List ℕ)
path_at entries index = option_map (λ (e : Entry). e.file.path) (slice_get entries index)

-- the index of the first of some files that has an ID
abbrev pub index_with : IdValue → List FileLint → Option ℕ
index_with id [] = None
index_with id (f ∷ files) = cond (has_id id f) (Some 0) (option_map suc (index_with id files))

-- a table that maps each ID to the index of the first of some files that has it
abbrev pub AreFirsts : BTreeMap IdValue ℕ → List FileLint → Type 0
AreFirsts firsts files = (id : IdValue) → tree.get id_order firsts id ≡ index_with id files

-- the entries and the table after one more file
pub record IsAdded (f : FileLint) (old new : List Entry) (firsts : BTreeMap IdValue ℕ) : Type 0 where
  pub entries : new ≡ old ++ record { file = f; first = first_with f.id (map file_of old) } ∷ []
  pub firsts_are : AreFirsts firsts (map file_of old ++ f ∷ [])
