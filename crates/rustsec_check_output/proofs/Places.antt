-- The packages at some places, one after another.
use Rattle.std.proofs.Common.{◌≡◌, ◌∙◌, ◌+◌, ◌<◌, ◌++◌, ℕ, Bor, List, [], ◌∷◌, Option, None, Some, ap, append-nil, get_or, length, map, refl, sym, take}
use Rattle.std.specs.Prelude.{slice_get}
use Rattle.std.specs.List.{cons_option}
use Rattle.std.proofs.lemmas.List.{map-append, take_more}
use Rattle.std.proofs.lemmas.List.Elements.{filter_map-append}
use Rattle.std.proofs.lemmas.List.Folds.{flat_map-map}
use Rattle.rustsec_lock.specs.Package.{PackageValue}
use Rattle.rustsec_check_output.specs.CheckJson.{later_json, list_json}
use Rattle.rustsec_check_output.specs.CheckTree.{packages_at}

pub places_more : (packages : List PackageValue) (places : List ℕ) (i d : ℕ) → i < length places
    → packages_at packages (take (i + 1) places) ≡ packages_at packages (take i places) ++ cons_option (slice_get packages (get_or places i d)) []
places_more packages places i d lt =
    ap (λ ps. packages_at packages ps) (take_more places i d lt) ∙ filter_map-append (slice_get packages) (take i places) (get_or places i d ∷ [])

pub known_some : (found : List (Bor PackageValue)) (p : Bor PackageValue) (o : Option PackageValue) → o ≡ Some p.now
    → map (λ q. q.now) (found ++ p ∷ []) ≡ map (λ q. q.now) found ++ cons_option o []
known_some found p o is = map-append (λ (q : Bor PackageValue). q.now) found (p ∷ []) ∙ ap (λ r. map (λ q. q.now) found ++ cons_option r []) (sym is)

pub known_none : (found : List (Bor PackageValue)) (o : Option PackageValue) → o ≡ None
    → map (λ q. q.now) found ≡ map (λ q. q.now) found ++ cons_option o []
known_none found o is = sym (append-nil (map (λ q. q.now) found)) ∙ ap (λ r. map (λ q. q.now) found ++ cons_option r []) (sym is)

-- a list of values that are seen as others
pub list_seen : {A B : Type 0} (v : A → B) (json : B → List ℕ) (xs : List A) → list_json (λ x. json (v x)) xs ≡ list_json json (map v xs)
list_seen v json [] = refl
list_seen v json (x ∷ xs) = ap (λ t. 91 ∷ (json (v x) ++ (t ++ 93 ∷ []))) (sym (flat_map-map (λ y. 44 ∷ json y) v xs))
