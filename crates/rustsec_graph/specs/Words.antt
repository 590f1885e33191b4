-- The first words of names and entries, by which packages are found for entries.
use Rattle.std.specs.Prelude.{◌≡◌, ◌==◌, ℕ, Bool, false, List, [], length, slice_get}
use Rattle.std.specs.Borrow.{Bor}
use Rattle.std.specs.HashMap.{HashMap, get_by}
use Rattle.std.specs.List.{before_first, filter}
use Rattle.std.specs.Option.{option_map_or}
use Rattle.std.specs.Str.{bytes_eq}
use Rattle.std.specs.declared.vec.Vec.{Vec}
use Rattle.rustsec_lock.specs.Package.{PackageValue}
use Rattle.rustsec_graph.specs.Candidates.{Candidate}
use Rattle.rustsec_graph.specs.Entries.{fits_at, fitting, places}

abbrev pub is_space : ℕ → Bool
is_space b = b == 32

-- the text before its first space, if any
abbrev pub first_word : List ℕ → List ℕ
first_word text = before_first is_space text

-- whether a package's name has this first word
abbrev pub has_word : List ℕ → PackageValue → Bool
has_word word p = bytes_eq word (first_word p.name)

-- likewise for the package at a place
abbrev pub has_word_at : List PackageValue → List ℕ → ℕ → Bool
has_word_at packages word place = option_map_or (has_word word) (slice_get packages place) false

-- the places of the packages whose names have this first word
abbrev pub with_word : List PackageValue → List ℕ → List ℕ
with_word packages word = filter (has_word_at packages word) (places (length packages))

-- ---- a map from first words to places

-- the places under a word; a missing word has none
abbrev pub places_under : {Z S : Type 0} → HashMap (Bor (List ℕ)) (Vec ℕ Z) S → List ℕ → List ℕ
places_under words word = option_map_or (λ (v : Vec ℕ _). v.items) (get_by (λ k. bytes_eq word k.now) words) []

-- under each word are the places of the packages whose names have this first word
abbrev pub AreWords : {Z S : Type 0} → List PackageValue → HashMap (Bor (List ℕ)) (Vec ℕ Z) S → Type 0
AreWords packages words = (word : List ℕ) → places_under words word ≡ with_word packages word

-- under the first word of an entry are all places that the entry fits
abbrev pub FindsAll : {Z S : Type 0} → List Candidate → HashMap (Bor (List ℕ)) (Vec ℕ Z) S → Type 0
FindsAll cs words = (entry : List ℕ) → fitting cs entry ≡ filter (fits_at cs entry) (places_under words (first_word entry))
