-- What the page shows after the findings: yanked packages, ignored pairs, ignored IDs without effect, and notes.
use Rattle.std.specs.Prelude.{◌==◌, ◌++◌, ℕ, if◌then◌else◌, List, [], ◌∷◌, Option, Some, None, length}
use Rattle.std.specs.List.{flat_map}
use Rattle.rustsec_lock.specs.Package.{PackageValue}
use Rattle.rustsec_texts.specs.Ids.{IdValue}
use Rattle.rustsec_policy.specs.Entries.{entry_with}
use Rattle.rustsec_policy.specs.declared.ignored.Ignored.{Ignored}
use Rattle.rustsec_check.specs.Values.{IgnoredValue, YankedValue}
use Rattle.rustsec_check_output.specs.CheckTree.{WrittenValue, reason_of, until_of}
use Rattle.rustsec_page.specs.Links.{denied_tag, linked_id, old_tag, package_code, path_rows}
use Rattle.rustsec_page.specs.Pieces.{Piece, content, item, section}
use Rattle.rustsec_page.specs.declared.section.Section.{Section}
use Rattle.rustsec_page.specs.declared.section.Section.TheVariants as kind
use Rattle.rustsec_page.specs.declared.item.Item.TheVariants as part

-- ---- yanked packages

-- a yanked package, and why it is there
unfoldable pub yanked_row : List PackageValue → YankedValue → List Piece
yanked_row packages y =
    item part.Start ∷ (package_code y.«package» ++ (denied_tag y.is_denied ++ (old_tag y.is_old ++ (path_rows packages y.path
    ++ (item part.End ∷ [])))))

-- the section of some yanked packages
unfoldable pub yanked_list : List PackageValue → List YankedValue → List Piece
yanked_list packages ys = section kind.Yanked ∷ (flat_map (yanked_row packages) ys ++ (section kind.ListEnd ∷ []))

abbrev pub yanked_rows : List PackageValue → List YankedValue → List Piece
yanked_rows packages ys = if length ys == 0 then [] else yanked_list packages ys

-- nothing if no index was asked
abbrev pub yanked : List PackageValue → Option (List YankedValue) → List Piece
yanked packages None = []
yanked packages (Some ys) = yanked_rows packages ys

-- ---- ignored pairs

-- a last day and a reason, which may be missing
abbrev pub until_words : Option (List ℕ) → List Piece
until_words None = []
until_words (Some until) = item part.Until ∷ content until ∷ []

abbrev pub reason_words : Option (List ℕ) → List Piece
reason_words None = []
reason_words (Some reason) = item part.Reason ∷ content reason ∷ []

-- an ignored pair, with what the entry that ignores it says
unfoldable pub ignored_with : Option Ignored → IgnoredValue → List Piece
ignored_with entry i =
    item part.Start ∷ (linked_id i.advisory.metadata.id ++ (item part.Space ∷ (package_code i.«package» ++ (until_words (until_of entry)
    ++ (reason_words (reason_of entry) ++ (item part.End ∷ []))))))

unfoldable pub ignored_row : List Ignored → IgnoredValue → List Piece
ignored_row entries i = ignored_with (entry_with entries i.advisory.metadata.id) i

unfoldable pub ignored_list : List Ignored → List IgnoredValue → List Piece
ignored_list entries pairs = section kind.Ignored ∷ (flat_map (ignored_row entries) pairs ++ (section kind.ListEnd ∷ []))

abbrev pub ignored : List Ignored → List IgnoredValue → List Piece
ignored entries pairs = if length pairs == 0 then [] else ignored_list entries pairs

-- ---- ignored IDs without effect

unfoldable pub id_row : IdValue → List Piece
id_row id = item part.Start ∷ (linked_id id ++ (item part.End ∷ []))

unfoldable pub id_list : Section → List IdValue → List Piece
id_list s ids = section s ∷ (flat_map id_row ids ++ (section kind.ListEnd ∷ []))

abbrev pub ids : Section → List IdValue → List Piece
ids s rows = if length rows == 0 then [] else id_list s rows

-- ---- notes

unfoldable pub note_row : List ℕ → List Piece
note_row note = item part.Start ∷ content note ∷ item part.End ∷ []

unfoldable pub note_list : List (List ℕ) → List Piece
note_list rows = section kind.Notes ∷ (flat_map note_row rows ++ (section kind.ListEnd ∷ []))

abbrev pub notes : List (List ℕ) → List Piece
notes rows = if length rows == 0 then [] else note_list rows

-- ---- all of them

unfoldable pub lists : WrittenValue → List Piece
lists w =
    yanked w.packages w.yanked ++ (ignored w.entries w.check.ignored ++ (ids kind.Unused w.check.unused
    ++ (ids kind.Unknown w.check.unknown ++ notes w.notes)))
