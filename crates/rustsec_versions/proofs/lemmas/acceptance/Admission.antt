-- How a loop over a list of requirements builds the intervals of the list.
use Rattle.std.proofs.Common.{◌≡◌, ℕ, Bool, ◌+◌, ◌<◌, ◌++◌, ◌&&◌, true, false, List, [], ◌∷◌, length, take, get_or, map, refl, sym, ◌∙◌}
use Rattle.std.specs.Prelude.{filter_map, is_some}
use Rattle.std.proofs.lemmas.Bool.{and_left, and_right}
use Rattle.std.proofs.lemmas.List.{map-append, take_more}
use Rattle.std.proofs.lemmas.List.Elements.{filter_map-append}
use Rattle.std.proofs.lemmas.List.Folds.{list_all-append, list_all-map}
use Rattle.semver.proofs.Lists.{all-stop}
use Rattle.semver.specs.Parse.{Held}
use Rattle.semver.specs.declared.VersionReq.{VersionReq}
use Rattle.rustsec_versions.specs.acceptance.Lists.{all_admissible}
use Rattle.rustsec_versions.specs.requirement.Requirement.{interval_of}
use Rattle.rustsec_versions.specs.acceptance.Sweep.{tag, tagged}
use Rattle.rustsec_versions.specs.Views.{comparators_of}

-- the intervals of two lists, one after the other
pub tagged-append : (b : Bool) (rs qs : List (List Held)) → tagged b (rs ++ qs) ≡ tagged b rs ++ tagged b qs
tagged-append b rs qs = rw (filter_map-append interval_of rs qs) (map-append (tag b) (filter_map interval_of rs) (filter_map interval_of qs))

-- one more requirement of a list
list-more : (rs : List VersionReq) (i : ℕ) (r : VersionReq) → i < length rs → r ≡ get_or rs i r
    → map comparators_of (take (i + 1) rs) ≡ map comparators_of (take i rs) ++ comparators_of r ∷ []
list-more rs i r lt at = rw (take_more rs i r lt, ← at) (map-append comparators_of (take i rs) (r ∷ []))

-- one more interval of a list with marks
pub tagged-more : (b : Bool) (rs : List VersionReq) (i : ℕ) (r : VersionReq) → i < length rs → r ≡ get_or rs i r
    → tagged b (map comparators_of (take (i + 1) rs)) ≡ tagged b (map comparators_of (take i rs)) ++ tagged b (comparators_of r ∷ [])
tagged-more b rs i r lt at = rw (list-more rs i r lt at) (tagged-append b (map comparators_of (take i rs)) (comparators_of r ∷ []))

-- one more requirement is admissible
pub all_admissible-more : (rs : List VersionReq) (i : ℕ) (r : VersionReq) → i < length rs → r ≡ get_or rs i r
    → all_admissible (comparators_of r ∷ []) ≡ true → all_admissible (map comparators_of (take i rs)) ≡ true
    → all_admissible (map comparators_of (take (i + 1) rs)) ≡ true
all_admissible-more rs i r lt at one before =
    rw (list-more rs i r lt at, list_all-append (λ c. is_some (interval_of c)) (map comparators_of (take i rs)) (comparators_of r ∷ []), before) one

and-true : (b : Bool) → (b && true) ≡ b
and-true true = refl
and-true false = refl

-- a requirement that is not admissible
pub all_admissible-stop : (rs : List VersionReq) (i : ℕ) (r : VersionReq) → i < length rs → r ≡ get_or rs i r
    → all_admissible (comparators_of r ∷ []) ≡ false → all_admissible (map comparators_of rs) ≡ false
all_admissible-stop rs i r lt at none =
    let test = λ (q : VersionReq). is_some (interval_of (comparators_of q)) in
    list_all-map (λ c. is_some (interval_of c)) comparators_of rs ∙ all-stop test rs i r lt at (sym (and-true _) ∙ none)

-- the requirements of two lists
pub admissible-append : (rs qs : List (List Held)) → all_admissible (rs ++ qs) ≡ (all_admissible rs && all_admissible qs)
admissible-append rs qs = list_all-append (λ r. is_some (interval_of r)) rs qs

pub refused-left : (rs qs : List (List Held)) → all_admissible rs ≡ false → all_admissible (rs ++ qs) ≡ false
refused-left rs qs h = admissible-append rs qs ∙ and_left _ _ h

pub refused-right : (rs qs : List (List Held)) → all_admissible qs ≡ false → all_admissible (rs ++ qs) ≡ false
refused-right rs qs h = admissible-append rs qs ∙ and_right _ _ h
