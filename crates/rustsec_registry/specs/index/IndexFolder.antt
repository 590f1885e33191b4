-- What an index in a folder answers for a name, by the answers that the folders allow.
use Rattle.std.specs.Prelude.{◌≡◌, ◌≢◌, ◌⊎◌, ℕ, Bool, true, false, List, [], ◌∷◌, Option, Some, None, Ok, Err, codes, if◌then◌else◌, nat_eq}
use Rattle.std.specs.Cmp.Lexicographic.{pointwise}
use Rattle.std.specs.List.{list_any}
use Rattle.rustsec_files.specs.Allowed.{Allowed}
use Rattle.rustsec_files.specs.Names.{AreNames, under}
use Rattle.rustsec_files.specs.declared.source_file.SourceFile.{SourceFile}
use Rattle.rustsec_values.specs.Failure.{Failure}
use Rattle.rustsec_values.specs.declared.error.ErrorKind.TheVariants as kind
use Rattle.rustsec_lock.specs.Package.{PackageValue}
use Rattle.rustsec_registry.specs.Lookups.{Answer, at}
use Rattle.rustsec_registry.specs.Packages.{has_name}
use Rattle.rustsec_registry.specs.index.IndexFile.{IsDamage, Lists}
use Rattle.rustsec_registry.specs.index.IndexPath.{below, index_path}
use Rattle.rustsec_registry.specs.declared.index.form.IndexForm.TheVariants as form
use Rattle.rustsec_registry.specs.declared.index.place.Place.{Place}

-- whether some names have a name
abbrev pub has : List ℕ → List (List ℕ) → Bool
has name names = list_any (λ other. pointwise nat_eq other name) names

-- ---- the form of an index

-- where the files are: in `.cache`, if the folder has that, and else in the folder itself, which is a checkout then
abbrev pub place_of : List ℕ → List (List ℕ) → Place
place_of root names =
    if has (codes ".cache") names then record { root = under root (codes ".cache"); form = form.Cache }
    else record { root = root; form = form.Checkout }

abbrev pub IsPlace : Allowed → List ℕ → Place → Type 0
IsPlace allowed root place = (names : List (List ℕ)) × AreNames allowed root names × (place ≡ place_of root names)

-- ---- files that are missing

-- whether a folder lists a name, by an allowed listing; none where it cannot be listed
abbrev pub Shows : Allowed → List ℕ → List ℕ → Option Bool → Type 0
Shows allowed folder name (Some shown) = (names : List (List ℕ)) × AreNames allowed folder names × (has name names ≡ shown)
Shows allowed folder name None = allowed.lists folder None

-- a folder on the way to a file does not list the next name, and those before it do
abbrev pub IsMissing : Allowed → List ℕ → List (List ℕ) → Type 0
IsMissing allowed folder [] = ⊥
IsMissing allowed folder (name ∷ more) =
    Shows allowed folder name (Some false) ⊎ (Shows allowed folder name (Some true) × IsMissing allowed (under folder name) more)

-- each folder on the way to a file lists the next name, up to one that cannot be listed
abbrev pub IsListed : Allowed → List ℕ → List (List ℕ) → Type 0
IsListed allowed folder [] = Unit {0}
IsListed allowed folder (name ∷ more) =
    Shows allowed folder name None ⊎ (Shows allowed folder name (Some true) × IsListed allowed (under folder name) more)

-- ---- the answer for a name

-- the answer for the file at a path: it is missing; or it is read and lists these versions; or it is damaged, or cannot
-- be read and no listing shows that it is missing
abbrev pub IsFileAnswer : Allowed → Place → List (List ℕ) → List ℕ → Answer → Type 0
IsFileAnswer allowed place path name (Ok None) = allowed.reads (below (place.root) path) None × IsMissing allowed (place.root) path
IsFileAnswer allowed place path name (Ok (Some versions)) =
    (text : List ℕ) × allowed.reads (below (place.root) path) (Some text) × Lists (place.form) text name versions
IsFileAnswer allowed place path name (Err e) =
    ((text : List ℕ) × allowed.reads (below (place.root) path) (Some text) × IsDamage (place.form) (below (place.root) path) text name e)
    ⊎ ((e.kind ≡ kind.Io) × (allowed.reads (below (place.root) path) None × IsListed allowed (place.root) path))

-- likewise, for a file whose text was read
abbrev pub IsTextAnswer : Place → SourceFile → List ℕ → Answer → Type 0
IsTextAnswer place file name (Ok None) = ⊥
IsTextAnswer place file name (Ok (Some versions)) = Lists (place.form) (file.text) name versions
IsTextAnswer place file name (Err e) = IsDamage (place.form) (file.path) (file.text) name e

-- likewise, for a file that cannot be read, for this reason
abbrev pub IsUnreadAnswer : Allowed → Place → List (List ℕ) → Failure → Answer → Type 0
IsUnreadAnswer allowed place path reason (Ok None) = (reason.kind ≢ kind.OutOfMemory) × IsMissing allowed (place.root) path
IsUnreadAnswer allowed place path reason (Ok (Some versions)) = ⊥
IsUnreadAnswer allowed place path reason (Err e) = (e ≡ reason) × ((reason.kind ≢ kind.OutOfMemory) × IsListed allowed (place.root) path)

-- the answer for the file of a name; a text that is not a package's name is missing
abbrev pub IsAnswerAt : Allowed → Place → Option (List (List ℕ)) → List ℕ → Answer → Type 0
IsAnswerAt allowed place None name a = a ≡ Ok None
IsAnswerAt allowed place (Some path) name a = IsFileAnswer allowed place path name a

abbrev pub IsAnswer : Allowed → Place → List ℕ → Answer → Type 0
IsAnswer allowed place name a = IsAnswerAt allowed place (index_path name) name a

-- ---- the answers that were read

-- each is an answer for its name
abbrev pub AreAnswers : Allowed → Place → List (List ℕ × Answer) → Type 0
AreAnswers allowed place answers = (name : List ℕ) (a : Answer) → at name answers ≡ Some a → IsAnswer allowed place name a

-- each name of some packages has an answer
abbrev pub AnswersAll : List PackageValue → List (List ℕ × Answer) → Type 0
AnswersAll packages answers = (name : List ℕ) → has_name name packages ≡ true → (a : Answer) × (at name answers ≡ Some a)

-- the error for a name whose file was not read
abbrev pub not_read : Failure
not_read = record { kind = kind.BadParam; message = codes "the index was not read for this name"; cause = None }

-- what a look-up answers: the answer that was read for the name
abbrev pub IsGiven : Option Answer → Answer → Type 0
IsGiven (Some a) given = given ≡ a
IsGiven None given = given ≡ Err not_read

-- what was read from a folder: where its files are, and an answer for each name
abbrev pub IsIndex : Allowed → List ℕ → List (List ℕ × Answer) → Type 0
IsIndex allowed root answers = (place : Place) × IsPlace allowed root place × AreAnswers allowed place answers

-- the answers after one name was looked up: none is changed but that of the name, which has one
pub record IsAdded (allowed : Allowed) (place : Place) (name : List ℕ) (old new : List (List ℕ × Answer)) : Type 0 where
  pub same : (other : List ℕ) (a : Answer) → at other old ≡ Some a → at other new ≡ Some a
  pub there : (a : Answer) × (at name new ≡ Some a)
  pub given : (other : List ℕ) (a : Answer) → at other new ≡ Some a → (at other old ≡ Some a) ⊎ IsAnswer allowed place other a
