-- Links of the page, packages, and paths of packages.
use Rattle.std.specs.Prelude.{◌++◌, ℕ, Bool, if◌then◌else◌, List, [], ◌∷◌, Option, Some, None, codes, nat_eq, slice_get}
use Rattle.std.specs.List.{flat_map, starts_with}
use Rattle.semver.specs.Identifiers.{parts_text}
use Rattle.rustsec_lock.specs.Package.{PackageValue}
use Rattle.rustsec_texts.specs.Ids.{IdValue, page_of}
use Rattle.rustsec_page.specs.Pieces.{Piece, content, item}
use Rattle.rustsec_page.specs.declared.item.Item.TheVariants as part

-- ---- links

-- a text that links to an address
abbrev pub link : List ℕ → List ℕ → List Piece
link address text = item part.LinkStart ∷ content address ∷ item part.LinkText ∷ content text ∷ item part.LinkEnd ∷ []

-- a text that links to an address if the address begins with `https://`
unfoldable pub linked : List ℕ → List ℕ → List Piece
linked address text = if starts_with nat_eq address (codes "https://") then link address text else content text ∷ []

-- a text with an address that may be missing
abbrev pub maybe_linked : Option (List ℕ) → List ℕ → List Piece
maybe_linked None text = content text ∷ []
maybe_linked (Some address) text = linked address text

-- an ID, which links to its page
unfoldable pub linked_id : IdValue → List Piece
linked_id id = maybe_linked (page_of id) id.text

-- ---- packages

-- the name and the version of a package
unfoldable pub package_words : PackageValue → List Piece
package_words p = content p.name ∷ item part.VersionStart ∷ content (parts_text p.version) ∷ []

-- the same in the look of code
unfoldable pub package_code : PackageValue → List Piece
package_code p = item part.CodeStart ∷ (package_words p ++ (item part.CodeEnd ∷ []))

-- the package at a place, or a question mark if there is none
abbrev pub known_words : Option PackageValue → List Piece
known_words None = item part.Unknown ∷ []
known_words (Some p) = package_words p

abbrev pub place_words : List PackageValue → ℕ → List Piece
place_words packages place = known_words (slice_get packages place)

-- ---- paths

unfoldable pub step : List PackageValue → ℕ → List Piece
step packages place = item part.Start ∷ (place_words packages place ++ (item part.End ∷ []))

-- the packages of a path, each an item of a list
abbrev pub steps : List PackageValue → List ℕ → List Piece
steps packages path = item part.PathStart ∷ (flat_map (step packages) path ++ (item part.PathEnd ∷ []))

abbrev pub path_rows : List PackageValue → Option (List ℕ) → List Piece
path_rows packages None = item part.NoPath ∷ []
path_rows packages (Some path) = steps packages path

-- ---- tags

abbrev pub denied_tag : Bool → List Piece
denied_tag is_denied = if is_denied then item part.Denied ∷ [] else []

abbrev pub old_tag : Bool → List Piece
old_tag is_old = if is_old then item part.Old ∷ [] else []
