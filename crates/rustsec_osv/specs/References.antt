-- The references of an exported document: their addresses, and the kind of each (OSV schema,
-- `references[].type`).
-- It carries meaning: public contracts cite it.
use Rattle.std.specs.Prelude.{ℕ, Bool, ◌&&◌, ◌||◌, List, [], ◌∷◌, ◌++◌, Option, Some, codes, if◌then◌else◌, map, nat_eq, option_to_list}
use Rattle.std.specs.List.{starts_with}
use Rattle.rustsec_values.specs.Reading.{◌>>=◌}
use Rattle.rustsec_texts.specs.Addresses.{address_of}
use Rattle.rustsec_advisory.specs.declared.metadata.Metadata.{Metadata}
use Rattle.rustsec_osv.specs.declared.reference.OsvReference.{OsvReference}
use Rattle.rustsec_osv.specs.declared.reference.OsvReferenceKind.{OsvReferenceKind}
use Rattle.rustsec_osv.specs.declared.reference.OsvReferenceKind.TheVariants as kind

-- whether a text contains a part
unfoldable pub has : List ℕ → List ℕ → Bool
has part [] = starts_with nat_eq [] part
has part (b ∷ bs) = starts_with nat_eq (b ∷ bs) part || has part bs

-- whether it is the address of a report on a forge
abbrev pub is_report : List ℕ → Bool
is_report text = (has (codes "://github.com/") text || has (codes "://gitlab.") text) && has (codes "/issues/") text

abbrev pub is_advisory : List ℕ → Bool
is_advisory text = has (codes "/advisories/") text || has (codes "://cve.mitre.org/") text

abbrev pub is_package : List ℕ → Bool
is_package text = has (codes "://crates.io/crates/") text

-- the kind of a reference, by the text that its address prints: that of the first test that holds
unfoldable pub kind_of : List ℕ → OsvReferenceKind
kind_of text =
    if is_report text then kind.REPORT
    else (if is_advisory text then kind.ADVISORY
    else (if is_package text then kind.PACKAGE else kind.WEB))

-- a reference to an address
abbrev pub reference_of : List ℕ → OsvReference
reference_of address = record { kind = kind_of address; url = address }

-- the page of a package
abbrev pub package_page : List ℕ → List ℕ
package_page name = codes "https://crates.io/crates/" ++ name

-- the page of an advisory
abbrev pub advisory_page : List ℕ → List ℕ
advisory_page id = codes "https://rustsec.org/advisories/" ++ (id ++ codes ".html")

-- references to both, by their addresses
abbrev pub own_pages : List ℕ → List ℕ → Option (List OsvReference)
own_pages name id =
    address_of (package_page name) >>= λ page. address_of (advisory_page id) >>= λ own. Some (reference_of page ∷ reference_of own ∷ [])

-- the references of an advisory's document: both pages, then the advisory's own address and its references
abbrev pub references_of : Metadata → Option (List OsvReference)
references_of m = own_pages m.«package» m.id.text >>= λ pages. Some (pages ++ map reference_of (option_to_list m.url ++ m.references))
