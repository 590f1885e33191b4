-- How an interval prints: `[0`, `(v` or `[v`, a comma and a space, then `∞)`, `v)` or `v]`.
-- It carries meaning: public contracts cite it.
use Rattle.std.specs.Prelude.{ℕ, List, ◌∷◌, ◌++◌, codes}
use Rattle.semver.specs.Identifiers.{parts_text}
use Rattle.rustsec_versions.specs.interval.Interval.{Endpoint, Interval, exclusive, inclusive, unbounded}

abbrev pub start_text : Endpoint → List ℕ
start_text unbounded = codes "[0"
start_text (exclusive v) = codes "(" ++ parts_text v
start_text (inclusive v) = codes "[" ++ parts_text v

-- the infinity sign is the character U+221E, three bytes of UTF-8
abbrev pub end_text : Endpoint → List ℕ
end_text unbounded = 0xE2 ∷ 0x88 ∷ 0x9E ∷ codes ")"
end_text (exclusive v) = parts_text v ++ codes ")"
end_text (inclusive v) = parts_text v ++ codes "]"

abbrev pub interval_text : Interval → List ℕ
interval_text i = start_text i.start ++ (codes ", " ++ end_text i.end)
