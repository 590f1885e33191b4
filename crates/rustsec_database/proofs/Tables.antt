-- The tables of a database after one more advisory is stored.
use Rattle.std.proofs.Common.{◌≡◌, ◌∙◌, ◌+◌, ◌++◌, ◌&&◌, ◌||◌, ℕ, Bool, true, false, cond, IsSome, List, [], ◌∷◌, None, Option, Some, is_some, length, nat_eq, refl, subst, sym, ap, arith}
use Rattle.std.specs.Cmp.{first_so, second_so}
use Rattle.std.specs.Cmp.Lexicographic.{bytes_decides, pointwise}
use Rattle.std.specs.HashMap as hash
use Rattle.std.specs.HashMap.{HashMap, Updates}
use Rattle.std.specs.List.{find, list_any, position_from}
use Rattle.semver.specs.Parse.{Parts}
use Rattle.rustsec_versions.specs.acceptance.Lists.{affected}
use Rattle.rustsec_texts.specs.IdOrder.{id_decides, id_eq}
use Rattle.rustsec_texts.specs.Ids.{IdValue}
use Rattle.rustsec_advisory.specs.declared.advisory.Advisory.{Advisory}
use Rattle.rustsec_database.specs.Query.{Asked}
use Rattle.rustsec_database.specs.Selects.{as_informational, as_withdrawn, has_name, has_source, has_version, if_there, in_collection, is_severe, of_year, on_arch, on_os, selects}
use Rattle.rustsec_database.specs.Loaded.{has_id, is_known}
use Rattle.rustsec_database.specs.Places.{IsTableOf}
use Rattle.rustsec_database.proofs.Places.{find-any, first-last, first-other, is-false, none-at}

-- ---- the table of IDs

id-back : (a b : IdValue) → id_eq a b ≡ false → id_eq b a ≡ false
id-back a b h = is-false (id_eq b a) (λ t. cc (sym h ∙ (id_decides a b).1 (sym ((id_decides b a).0 t))))

pub plus-zero : (n : ℕ) → n ≡ 0 + n
plus-zero n = omega arith

table-step : (old : List Advisory) (a : Advisory) (id : IdValue) (o : Option ℕ) (b : Bool) → id_eq a.metadata.id id ≡ b
    → o ≡ position_from (has_id id) 0 old → is_known old a ≡ false
    → cond b (Some (length old)) o ≡ position_from (has_id id) 0 (old ++ a ∷ [])
table-step old a id o true is at new =
    let same : a.metadata.id ≡ id = (id_decides a.metadata.id id).0 is in
    let none : list_any (has_id id) old ≡ false = subst (λ i. list_any (has_id i) old ≡ false) same new in
    let here : has_id id a ≡ true = (id_decides id a.metadata.id).1 (sym same) in
    ap Some (plus-zero (length old)) ∙ sym (first-last (has_id id) 0 old a none here)
table-step old a id o false is at new = at ∙ sym (first-other (has_id id) 0 old a (id-back a.metadata.id id is))

pub table-more : {S : Type 0} (old : List Advisory) (a : Advisory) (id : IdValue) (m n : HashMap IdValue ℕ S) (place : ℕ) → id ≡ a.metadata.id → place ≡ length old
    → Updates id_eq m n id (Some place) → is_known old a ≡ false → IsTableOf old m → IsTableOf (old ++ a ∷ []) n
table-more old a id m n place same at updates new table q =
    updates.0 q ∙ ((λ i. cond (id_eq (same i) q) (Some (at i)) (hash.get id_eq m q))
    ∙ table-step old a q (hash.get id_eq m q) (id_eq a.metadata.id q) refl (table q) new)

some-step : (b : Bool) (i : ℕ) (o : Option ℕ) (r : Bool) → IsSome (cond b (Some i) o) → (IsSome o → r ≡ true) → (b || r) ≡ true
some-step true i o r h more = refl
some-step false i o r h more = more h

some-any : (test : Advisory → Bool) (i : ℕ) (list : List Advisory) → IsSome (position_from test i list) → list_any test list ≡ true
some-any test i [] h = absurd (cc h)
some-any test i (a ∷ list) h = some-step (test a) i _ _ h (some-any test (i + 1) list)

-- an ID that the table has is known
pub known-in-table : {S : Type 0} (list : List Advisory) (a : Advisory) (id : IdValue) (m : HashMap IdValue ℕ S) → id ≡ a.metadata.id → IsTableOf list m
    → IsSome (hash.get id_eq m id) → is_known list a ≡ true
known-in-table list a id m same table there =
    some-any (has_id a.metadata.id) 0 list (subst IsSome (table id ∙ ap (λ i. position_from (has_id i) 0 list) same) there)

-- another ID is new
pub new-in-table : {S : Type 0} (list : List Advisory) (a : Advisory) (id : IdValue) (m : HashMap IdValue ℕ S) → id ≡ a.metadata.id → IsTableOf list m
    → hash.get id_eq m id ≡ None → is_known list a ≡ false
new-in-table list a id m same table none =
    let found : None ≡ find (has_id a.metadata.id) list =
    none-at (has_id a.metadata.id) 0 list (sym none ∙ (table id ∙ ap (λ i. position_from (has_id i) 0 list) same)) in
    sym (find-any (has_id a.metadata.id) list) ∙ ap is_some (sym found)

-- ---- names

pub name-back : (a b : List ℕ) → pointwise nat_eq a b ≡ false → pointwise nat_eq b a ≡ false
name-back a b h = is-false (pointwise nat_eq b a) (λ t. cc (sym h ∙ (bytes_decides a b).1 (sym ((bytes_decides b a).0 t))))

-- ---- queries

-- an advisory that a query selects is of the package that the query asks for
pub selected-named : (q : Asked) (name : List ℕ) (a : Advisory) → Some name ≡ q.package_name → selects q a ≡ true
    → pointwise nat_eq name a.metadata.«package» ≡ true
unfolding selects
selected-named q name a named h =
    let asked : has_name q a ≡ true =
    second_so (in_collection q a) (has_name q a) (first_so _ (has_version q a) (first_so _ (has_source q a) (first_so _ (is_severe q a)
    (first_so _ (on_arch q a) (first_so _ (on_os q a) (first_so _ (of_year q a) (first_so _ (as_withdrawn q a) (first_so _ (as_informational q a) h)))))))) in
    subst (λ o. if_there (λ n. pointwise nat_eq n a.metadata.«package») o ≡ true) (sym named) asked

-- an advisory that a query selects affects the version that the query asks for
pub selected-affecting : (q : Asked) (version : Option Parts) (a : Advisory) → version ≡ q.package_version → selects q a ≡ true
    → if_there (affected a.versions) version ≡ true
unfolding selects
selected-affecting q version a at h =
    let asked : has_version q a ≡ true =
    second_so (in_collection q a && has_name q a) (has_version q a) (first_so _ (has_source q a) (first_so _ (is_severe q a) (first_so _ (on_arch q a)
    (first_so _ (on_os q a) (first_so _ (of_year q a) (first_so _ (as_withdrawn q a) (first_so _ (as_informational q a) h))))))) in
    subst (λ o. if_there (affected a.versions) o ≡ true) (sym at) asked
