-- The known word that is nearest to an unknown one. The distance of two texts is the number of edits between them: a
-- character is added, taken away or exchanged, or two neighbours change places (optimal string alignment).
use Rattle.std.specs.Prelude.{◌==◌, ℕ, List, Option, length}
use Rattle.std.specs.List.{find}
use Rattle.std.specs.Option.{option_or}
use Rattle.std.specs.Str.{chars}
use Rattle.strsim.specs.Edits.{osa_table}

abbrev pub distance : List ℕ → List ℕ → ℕ
distance text word = (osa_table (chars text) (chars word)).last_row (length (chars word))

-- the first word at a distance from a text
abbrev pub first_at : ℕ → List ℕ → List (List ℕ) → Option (List ℕ)
first_at steps text words = find (λ word. distance text word == steps) words

-- the word that may be meant: the first at distance one, else the first at distance two
abbrev pub nearest : List ℕ → List (List ℕ) → Option (List ℕ)
nearest text words = option_or (first_at 1 text words) (first_at 2 text words)
