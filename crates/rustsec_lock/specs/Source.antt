-- Where a package comes from: `KIND+ADDRESS`, as lockfiles write it.
use Rattle.std.specs.Prelude.{◌==◌, ◌||◌, ◌++◌, ℕ, Bool, List, [], ◌∷◌, Option, Some, codes, length, nat_eq, nat_lt}
use Rattle.std.specs.Cmp.Lexicographic.{pointwise}
use Rattle.std.specs.List.{after_first, before_first, position_or_len}
use Rattle.rustsec_lock.specs.declared.source.SourceKind.{SourceKind}
use Rattle.rustsec_lock.specs.declared.source.SourceKind.TheVariants as kind
use Rattle.rustsec_values.specs.ClosedTables.{from_name}
use Rattle.rustsec_values.specs.Reading.{◌>>=◌, only_if}

-- a source: its kind, and all that follows the first `+` of its text
pub record Source : Type 0 where
  pub kind : SourceKind
  pub address : List ℕ

-- the word of a kind
abbrev pub kind_word : SourceKind → List ℕ
kind_word kind.Registry = codes "registry"
kind_word kind.SparseRegistry = codes "sparse"
kind_word kind.Git = codes "git"
kind_word kind.Path = codes "path"
kind_word kind.LocalRegistry = codes "local-registry"
kind_word kind.Directory = codes "directory"

-- each kind
abbrev pub kinds : List SourceKind
kinds = kind.Registry ∷ kind.SparseRegistry ∷ kind.Git ∷ kind.Path ∷ kind.LocalRegistry ∷ kind.Directory ∷ []

-- the kind of a word
abbrev pub kind_of : List ℕ → Option SourceKind
kind_of = from_name kind_word kinds

-- whether a byte is a plus sign
abbrev pub is_plus : ℕ → Bool
is_plus b = b == 43

-- whether a byte is a question mark or a number sign
abbrev pub ends_address : ℕ → Bool
ends_address b = b == 63 || b == 35

-- the address for `url`: for `git` sources without all from the first `?` or `#` on
abbrev pub location_of : SourceKind → List ℕ → List ℕ
location_of kind.Registry address = address
location_of kind.SparseRegistry address = address
location_of kind.Git address = before_first ends_address address
location_of kind.Path address = address
location_of kind.LocalRegistry address = address
location_of kind.Directory address = address

abbrev pub url_of : Source → List ℕ
url_of s = location_of s.kind s.address

-- the text of a source
abbrev pub source_text : Source → List ℕ
source_text s = kind_word s.kind ++ 43 ∷ s.address

-- a source, if its location is not empty
abbrev pub located : Source → Option Source
located s = only_if (nat_lt 0 (length (url_of s))) (Some s)

-- the text before the first plus sign and the text after it, if there is a plus sign
abbrev pub at_plus : List ℕ → Option (List ℕ × List ℕ)
at_plus text = only_if (nat_lt (position_or_len is_plus text) (length text)) (Some (before_first is_plus text, after_first is_plus text))

-- the source of a word and an address
abbrev pub source_of_cut : List ℕ × List ℕ → Option Source
source_of_cut cut = kind_of cut.0 >>= λ k. located (record { kind = k; address = cut.1 })

-- the source of a text, which is cut at its first plus sign
abbrev pub source_id_of : List ℕ → Option Source
source_id_of text = at_plus text >>= source_of_cut

-- the two sources of the default registry: its index in git, which is the default source, and the sparse one
abbrev pub default_source : Source
default_source = record { kind = kind.Registry; address = codes "https://github.com/rust-lang/crates.io-index" }

abbrev pub default_sparse_source : Source
default_sparse_source = record { kind = kind.SparseRegistry; address = codes "https://index.crates.io/" }

-- whether a source is the default registry
abbrev pub is_default : Source → Bool
is_default s = pointwise nat_eq (source_text s) (source_text default_source) || pointwise nat_eq (source_text s) (source_text default_sparse_source)
