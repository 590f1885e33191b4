-- Intervals that are apart: none overlaps a later one of the list.
-- It carries meaning: public contracts cite it.
use Rattle.std.specs.Prelude.{Bool, true, not, ◌&&◌, List, [], ◌∷◌}
use Rattle.std.specs.List.{list_any}
use Rattle.std.specs.declared.cmp.Ordering.{Ordering}
use Rattle.semver.specs.Parse.{Parts}
use Rattle.rustsec_versions.specs.interval.Interval.{Interval, overlap}

abbrev pub are_apart : (Parts → Parts → Ordering) → List Interval → Bool
are_apart order [] = true
are_apart order (i ∷ is) = not (list_any (overlap order i) is) && are_apart order is
