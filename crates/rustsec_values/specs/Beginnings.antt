-- Beginnings of texts.
use Rattle.std.specs.Prelude.{◌≡◌, ◌<◌, ◌≤◌, ℕ, List, take}
use Rattle.std.specs.Str.{IsCharBoundary}

-- the longest beginning of a text that has at most this many bytes and ends between two characters
abbrev pub IsBeginning : ℕ → List ℕ → List ℕ → Type 0
IsBeginning most text b = (n : ℕ) × (n ≤ most) × IsCharBoundary text n × (b ≡ take n text)
    × ((m : ℕ) → n < m → m ≤ most → ¬ (IsCharBoundary text m))
