use Rattle.std.proofs.Common.{◌≡◌, ◌+◌, ◌≤◌, ◌++◌, ℕ, List, take}
use Rattle.rustsec_toml.specs.Places.{place_past}
use Rattle.rustsec_toml.proofs.place.place_after.Given as goal

-- the place after the bytes so far
abbrev pub invariant-loop-byte : goal.invariant-loop-byte
invariant-loop-byte l =
    ((before : List ℕ) → l.fn.place ≡ place_past before → l.after ≡ place_past (before ++ take l.byte-index l.bytes))
    × (l.after.line ≤ l.fn.place.line + l.byte-index) × (l.after.column ≤ l.fn.place.column + l.byte-index)
