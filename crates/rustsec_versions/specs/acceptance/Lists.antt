-- The lists of requirements of an advisory: which lists are accepted, and which versions they leave affected.
-- It carries meaning: public contracts cite it.
use Rattle.std.specs.Prelude.{◌&&◌, ◌==◌, ℕ, not, Bool, true, false, List, [], ◌++◌, Option, Some, None, filter_map, is_some, map}
use Rattle.std.specs.List.{enumerate_from, list_all, list_any}
use Rattle.semver.specs.Parse.{Held, Parts}
use Rattle.rustsec_versions.specs.order.Precedence.{precedence}
use Rattle.rustsec_versions.specs.interval.Apart.{are_apart}
use Rattle.rustsec_versions.specs.interval.Interval.{Interval, holds, overlap}
use Rattle.rustsec_versions.specs.requirement.Requirement.{interval_of}

-- the patched and the unaffected requirements, each by its comparators
pub record Lists : Type 0 where
  pub patched : List (List Held)
  pub unaffected : List (List Held)

-- no requirement at all
abbrev pub no_lists : Lists
no_lists = record { patched = []; unaffected = [] }

-- ---- places, and which two clash

-- a place in one of the two lists, by its number from 0
pub data Place : Type 0 where
  in_patched : ℕ → Place
  in_unaffected : ℕ → Place

-- whether two places are one
abbrev pub is_same : Place → Place → Bool
is_same (in_patched j) (in_patched k) = j == k
is_same (in_patched j) (in_unaffected k) = false
is_same (in_unaffected j) (in_patched k) = false
is_same (in_unaffected j) (in_unaffected k) = j == k

-- whether a place is in the patched list
abbrev pub is_patched : Place → Bool
is_patched (in_patched j) = true
is_patched (in_unaffected j) = false

-- a requirement at its place
pub record Placed : Type 0 where
  pub place : Place
  pub requirement : List Held

abbrev pub placed : (ℕ → Place) → List (List Held) → List Placed
placed at rs = map (λ e. record { place = at e.0; requirement = e.1 }) (enumerate_from 0 rs)

-- the joined list: patched and unaffected requirements, each at its place
abbrev pub joined : Lists → List Placed
joined ls = placed in_patched ls.patched ++ placed in_unaffected ls.unaffected

-- whether the intervals of two requirements overlap
abbrev pub meet : Option Interval → Option Interval → Bool
meet None j = false
meet (Some i) None = false
meet (Some i) (Some j) = overlap precedence i j

-- two different places clash where their intervals overlap and not both are patched
abbrev pub clash : Placed → Placed → Bool
clash p q =
    not (is_same p.place q.place) && (not (is_patched p.place && is_patched q.place) && meet (interval_of p.requirement) (interval_of q.requirement))

-- the intervals of the requirements, in order
abbrev pub intervals : Lists → List Interval
intervals ls = filter_map interval_of (ls.patched ++ ls.unaffected)

-- ---- acceptance

-- whether each requirement of a list is admissible
abbrev pub all_admissible : List (List Held) → Bool
all_admissible rs = list_all (λ r. is_some (interval_of r)) rs

-- whether two of the places clash
abbrev pub some_clash : List Placed → Bool
some_clash ps = list_any (λ p. list_any (clash p) ps) ps

-- lists are accepted if each requirement is admissible and no two places clash
unfoldable pub accepted : Lists → Bool
accepted ls = all_admissible (ls.patched ++ ls.unaffected) && not (some_clash (joined ls))

-- as `accepted`, but no two requirements may overlap, whichever lists they are in
abbrev pub accepted_apart : Lists → Bool
accepted_apart ls = all_admissible (ls.patched ++ ls.unaffected) && are_apart precedence (intervals ls)

-- ---- verdicts

-- a version is affected if no requirement's interval holds it
unfoldable pub affected : Lists → Parts → Bool
affected ls v = not (list_any (λ i. holds i v) (intervals ls))
