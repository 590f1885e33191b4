-- Trees without floats, whose text is known.
use Rattle.std.proofs.Common.{◌≡◌, ℕ, Bool, true, false, ◌||◌, List, [], ◌∷◌, ◌++◌, map, Option, None, Some, refl}
use Rattle.std.specs.Cmp.Lexicographic.{slice_cmp}
use Rattle.std.specs.Ordering.{match_ordering, nat_cmp}
use Rattle.std.specs.declared.cmp.Ordering.{Ordering}
use Rattle.std.specs.declared.cmp.Ordering.TheVariants as ordering
use Rattle.serde_json.specs.Data.{Data, Members, member, no_members, put}
use Rattle.serde_json.specs.View.{items_of}
use Rattle.serde_json.specs.Written.{has_float, items_have_float, members_have_float}
use Rattle.rustsec_json.specs.Trees.{list_tree, optional_tree}
use Rattle.rustsec_report.specs.Trees.{Entry, object_of, with_members}

-- a tree without a float, and members whose trees have no float
abbrev pub Plain : Data → Type 0
Plain d = has_float d ≡ false

abbrev pub AllPlain : List Entry → Type 0
AllPlain [] = Unit {0}
AllPlain (e ∷ es) = Plain e.1 × AllPlain es

-- ---- objects and lists

left : (a b : Bool) → (a || b) ≡ false → a ≡ false
left false b h = refl
left true b h = h

right : (a b : Bool) → (a || b) ≡ false → b ≡ false
right false b h = h
right true b h = cc h

pub neither : (a b : Bool) → a ≡ false → b ≡ false → (a || b) ≡ false
neither a b ha hb = rw (ha, hb) refl

chosen : (o : Ordering) (a b c : Members) → members_have_float a ≡ false → members_have_float b ≡ false → members_have_float c ≡ false
    → members_have_float (match_ordering o a b c) ≡ false
chosen ordering.Less a b c ha hb hc = ha
chosen ordering.Equal a b c ha hb hc = hb
chosen ordering.Greater a b c ha hb hc = hc

pub put-plain : (k : List ℕ) (d : Data) (ms : Members) → Plain d → members_have_float ms ≡ false → members_have_float (put k d ms) ≡ false
put-plain k d no_members hd hm = neither (has_float d) false hd refl
put-plain k d (member l e ms) hd hm =
    let he : Plain e = left (has_float e) (members_have_float ms) hm in
    let hs : members_have_float ms ≡ false = right (has_float e) (members_have_float ms) hm in
    chosen (slice_cmp nat_cmp k l) (member k d (member l e ms)) (member l d ms) (member l e (put k d ms))
    (neither (has_float d) _ hd hm) (neither (has_float d) _ hd hs) (neither (has_float e) _ he (put-plain k d ms hd hs))

with-plain : (es : List Entry) (ms : Members) → AllPlain es → members_have_float ms ≡ false → members_have_float (with_members ms es) ≡ false
unfolding with_members
with-plain [] ms h hm = hm
with-plain (e ∷ es) ms h hm = with-plain es (put e.0 e.1 ms) h.1 (put-plain e.0 e.1 ms h.0 hm)

pub object-plain : (es : List Entry) → AllPlain es → Plain (object_of es)
object-plain es h = with-plain es no_members h refl

pub append-plain : (es fs : List Entry) → AllPlain es → AllPlain fs → AllPlain (es ++ fs)
append-plain [] fs h k = k
append-plain (e ∷ es) fs h k = (h.0, append-plain es fs h.1 k)

module _ {A : Type 0} where
  items-plain : (tree : A → Data) → ((x : A) → Plain (tree x)) → (xs : List A) → items_have_float (items_of (map tree xs)) ≡ false
  items-plain tree h [] = refl
  items-plain tree h (x ∷ xs) = neither (has_float (tree x)) _ (h x) (items-plain tree h xs)

  pub list-plain : (tree : A → Data) → ((x : A) → Plain (tree x)) → (xs : List A) → Plain (list_tree tree xs)
  list-plain tree h xs = items-plain tree h xs

  pub optional-plain : (tree : A → Data) → ((x : A) → Plain (tree x)) → (o : Option A) → Plain (optional_tree tree o)
  optional-plain tree h None = refl
  optional-plain tree h (Some x) = h x

  pub map-plain : (entry : A → Entry) → ((x : A) → Plain ((entry x).1)) → (xs : List A) → AllPlain (map entry xs)
  map-plain entry h [] = tt
  map-plain entry h (x ∷ xs) = (h x, map-plain entry h xs)
