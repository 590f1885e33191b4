-- Advisory IDs: their kinds, which texts are IDs, the numbers in them and their pages on the web.
use Rattle.std.specs.Prelude.{ℕ, Bool, true, false, if◌then◌else◌, ◌&&◌, List, ◌++◌, Option, Some, None, codes, nat_eq, nat_le, option_map}
use Rattle.std.specs.Cmp.Lexicographic.{pointwise}
use Rattle.std.specs.List.{starts_with}
use Rattle.rustsec_values.specs.Reading.{◌>>=◌, only_if}
use Rattle.rustsec_texts.specs.Numbers.{last_part, number_of, three_parts}
use Rattle.rustsec_texts.specs.declared.id_kind.IdKind.{IdKind}
use Rattle.rustsec_texts.specs.declared.id_kind.IdKind.TheVariants as kind

-- an ID: its kind, its year if any, and its text
pub record IdValue : Type 0 where
  pub kind : IdKind
  pub year : Option ℕ
  pub text : List ℕ

-- the kind of an ID, by its prefix
abbrev pub kind_of_id : List ℕ → IdKind
kind_of_id text =
    if starts_with nat_eq text (codes "RUSTSEC-") then kind.RustSec
    else (if starts_with nat_eq text (codes "CVE-") then kind.Cve
    else (if starts_with nat_eq text (codes "TALOS-") then kind.Talos
    else (if starts_with nat_eq text (codes "GHSA-") then kind.Ghsa else kind.Other)))

-- the placeholder: the ID of an advisory that has none yet
abbrev pub placeholder : List ℕ
placeholder = codes "RUSTSEC-0000-0000"

abbrev pub is_placeholder : List ℕ → Bool
is_placeholder text = pointwise nat_eq text placeholder

-- whether IDs of a kind name a year
abbrev pub has_year : IdKind → Bool
has_year kind.RustSec = true
has_year kind.Cve = true
has_year kind.Ghsa = false
has_year kind.Talos = true
has_year kind.Other = false

-- whether a year is one of those that IDs and dates may have
abbrev pub is_year : ℕ → Bool
is_year year = nat_le 2000 year && nat_le year 2100

-- the year in an ID of three parts: the second part is the year, and the third a number
abbrev pub id_year : List ℕ → Option ℕ
id_year text = three_parts text >>= λ parts. number_of parts.1 >>= λ year. number_of parts.2 >>= λ number. only_if (is_year year) (Some year)

-- the year of an ID that is not the placeholder, if its kind has one
abbrev pub year_of_kind : Bool → List ℕ → Option (Option ℕ)
year_of_kind true text = id_year text >>= λ year. Some (Some year)
year_of_kind false text = Some None

-- an ID with this year
abbrev pub id_with : List ℕ → Option ℕ → IdValue
id_with text year = record { kind = kind_of_id text; year = year; text = text }

-- the ID of a text, if it is an ID
abbrev pub id_of : List ℕ → Option IdValue
id_of text =
    if is_placeholder text then Some (id_with text None)
    else (year_of_kind (has_year (kind_of_id text)) text >>= λ year. Some (id_with text year))

-- the number at the end of an ID: its last part, if that is a number
abbrev pub numerical_part : List ℕ → Option ℕ
numerical_part text = if is_placeholder text then None else number_of (last_part text)

-- the address under which the IDs of a kind have their pages
abbrev pub page_of_kind : IdKind → Option (List ℕ)
page_of_kind kind.RustSec = Some (codes "https://rustsec.org/advisories/")
page_of_kind kind.Cve = Some (codes "https://cve.mitre.org/cgi-bin/cvename.cgi?name=")
page_of_kind kind.Ghsa = Some (codes "https://github.com/advisories/")
page_of_kind kind.Talos = Some (codes "https://www.talosintelligence.com/reports/")
page_of_kind kind.Other = None

-- the page of an ID
abbrev pub page_of : IdValue → Option (List ℕ)
page_of id = if is_placeholder id.text then None else option_map (λ page. page ++ id.text) (page_of_kind id.kind)
