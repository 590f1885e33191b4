-- Entries of a list, one after another.
use Rattle.std.proofs.Common.{◌≡◌, ◌∙◌, ◌+◌, ◌<◌, ◌++◌, ℕ, List, [], ◌∷◌, Option, Some, None, get_or, length, map, take, append_assoc, refl, sym, ap}
use Rattle.std.specs.Prelude.{codes, filter_map, option_map}
use Rattle.std.specs.List.{cons_option, fold}
use Rattle.std.proofs.lemmas.List.{take_more}
use Rattle.std.proofs.lemmas.List.Elements.{filter_map-append}
use Rattle.toml.specs.Data.{Data, Members, as_array, get_member}
use Rattle.toml.specs.View.{items_view, view}
use Rattle.toml.specs.declared.value.Value.{Value}
use Rattle.rustsec_toml.specs.Fields.{list_of}
use Rattle.rustsec_toml.proofs.Arrays.{list_of-view}
use Rattle.rustsec_values.specs.Reading.{◌>>=◌}
use Rattle.rustsec_graph.specs.Edges.{as_list}
use Rattle.rustsec_graph.specs.Entries.{found, next_found, only, packages_in}

-- ---- the only element

many : (xs : List ℕ) → fold next_found (Some None) xs ≡ Some None
many [] = refl
many (x ∷ xs) = many xs

pub only-some : (xs : List ℕ) (o : Option ℕ) → found xs ≡ Some o → o ≡ only xs
only-some [] o h = cc h
only-some (x ∷ []) o h = cc h
only-some (x ∷ (y ∷ ys)) o h = cc (sym (many ys) ∙ h)

pub only-none : (xs : List ℕ) → found xs ≡ None → None ≡ only xs
only-none [] h = refl
only-none (x ∷ []) h = cc h
only-none (x ∷ (y ∷ ys)) h = refl

-- ---- the values of a list

one-value : {B : Type 0} (o : Option B) → as_list o ≡ cons_option o []
one-value None = refl
one-value (Some y) = refl

-- what a test gives for one value more, after what there was before
pub values-more : {A B : Type 0} (f : A → Option B) (xs : List A) (i : ℕ) (x : A) (base old new : List B) → i < length xs → x ≡ get_or xs i x
    → old ≡ base ++ filter_map f (take i xs) → new ≡ old ++ as_list (f x) → new ≡ base ++ filter_map f (take (i + 1) xs)
values-more f xs i x base old new l is before more =
    more ∙ ap (λ ys. ys ++ as_list (f x)) before ∙ append_assoc base (filter_map f (take i xs)) (as_list (f x))
    ∙ ap (λ ys. base ++ ys) (
    ap (λ ys. filter_map f (take i xs) ++ ys) (one-value (f x)) ∙ sym (filter_map-append f (take i xs) (x ∷ []))
    ∙ ap (filter_map f) (ap (λ y. take i xs ++ y ∷ []) is ∙ sym (take_more xs i x l))
    )

filter_map-map : {A : Type 0} (f : Data → Option A) (vs : List Value) → filter_map f (map view vs) ≡ filter_map (λ v. f (view v)) vs
filter_map-map f [] = refl
filter_map-map f (v ∷ vs) = ap (cons_option (f (view v))) (filter_map-map f vs)

pub filter_map-view : {A : Type 0} (f : Data → Option A) (vs : List Value) → filter_map f (list_of (items_view vs)) ≡ filter_map (λ v. f (view v)) vs
filter_map-view f vs = ap (filter_map f) (list_of-view vs) ∙ filter_map-map f vs

-- the values of the array `package`
pub packages-is : (ms : Members) (d : Data) (vs now : List Value) → Some d ≡ get_member (codes "package") ms → Some (items_view vs) ≡ as_array d → now ≡ vs
    → Some (map view now) ≡ packages_in ms
packages-is ms d vs now member array same =
    ap (λ xs. Some (map view xs)) same ∙ ap Some (sym (list_of-view vs)) ∙ ap (option_map list_of) array ∙ ap (λ o. option_map list_of (o >>= as_array)) member

-- what a test gives for the entries of a list
pub entries-are : {A : Type 0} (f : Data → Option A) (vs now : List Value) → now ≡ vs → filter_map (λ v. f (view v)) now ≡ filter_map f (list_of (items_view vs))
entries-are f vs now same = ap (filter_map (λ v. f (view v))) same ∙ sym (filter_map-view f vs)
