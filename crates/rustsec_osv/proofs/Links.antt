-- The names and the IDs in a document, reference by reference.
use Rattle.std.proofs.Common.{◌≡◌, ◌∙◌, ℕ, zero, suc, ◌+◌, ◌<◌, true, false, List, [], ◌∷◌, ◌++◌, length, get_or, map, take, Option, Some, None, refl, sym, ap, arith, inl, inr}
use Rattle.std.specs.Prelude.{filter}
use Rattle.std.proofs.lemmas.Bool.{cases_Bool}
use Rattle.std.proofs.lemmas.List.{map-append, take_more}
use Rattle.std.proofs.lemmas.List.Elements.{filter-append}
use Rattle.std.proofs.lemmas.Option.{same_Some}
use Rattle.rustsec_values.specs.Reading.{before, read_all}
use Rattle.rustsec_texts.specs.Ids.{IdValue}
use Rattle.rustsec_osv.specs.Imports.{crate_names, is_crate, is_page, linked_id, linked_ids}
use Rattle.rustsec_osv.specs.declared.affected.OsvAffected.{OsvAffected}
use Rattle.rustsec_osv.specs.declared.reference.OsvReference.{OsvReference}

-- ---- names

names-append : (xs ys : List OsvAffected) → crate_names (xs ++ ys) ≡ crate_names xs ++ crate_names ys
names-append xs ys = ap (map (λ (a : OsvAffected). a.«package».name)) (filter-append is_crate xs ys) ∙ map-append _ (filter is_crate xs) (filter is_crate ys)

pub names-more : (xs : List OsvAffected) (i : ℕ) (x : OsvAffected) → i < length xs → x ≡ get_or xs i x
    → crate_names (take (i + 1) xs) ≡ crate_names (take i xs) ++ crate_names (x ∷ [])
names-more xs i x l at = rw (take_more xs i x l, ← at) (names-append (take i xs) (x ∷ []))

-- ---- IDs

pub linked-nil : linked_ids [] ≡ Some []
unfolding read_all
linked-nil = refl

pub linked-page : (r : OsvReference) (i : IdValue) → is_page r.url ≡ true → linked_id r.url ≡ Some i → linked_ids (r ∷ []) ≡ Some (i ∷ [])
unfolding read_all
linked-page r i page there = rw (page, there) refl

pub linked-refused : (r : OsvReference) → is_page r.url ≡ true → linked_id r.url ≡ None → linked_ids (r ∷ []) ≡ None
unfolding read_all
linked-refused r page none = rw (page, none) refl

pub linked-other : (r : OsvReference) → is_page r.url ≡ false → linked_ids (r ∷ []) ≡ Some []
unfolding read_all
linked-other r other = rw other refl

before-join : {B : Type 0} (h : Option B) (r s : Option (List B)) (ys zs : List B) → before h r ≡ Some ys
    → ((xs : List B) → r ≡ Some xs → s ≡ Some (xs ++ zs)) → before h s ≡ Some (ys ++ zs)
before-join None r s ys zs e f = cc e
before-join (Some a) None s ys zs e f = cc e
before-join (Some a) (Some xs) s ys zs e f = rw (f xs refl, sym (same_Some (a ∷ xs) ys e)) refl

before-none : {B : Type 0} (h : Option B) (r : Option (List B)) → r ≡ None → before h r ≡ None
before-none None r e = refl
before-none (Some a) r e = rw e refl

first-none : {B : Type 0} (h : Option B) (r : Option (List B)) → before h (Some []) ≡ None → before h r ≡ None
first-none None r e = refl
first-none (Some a) r e = cc e

linked-join : (xs ys : List OsvReference) (is js : List IdValue) → linked_ids xs ≡ Some is → linked_ids ys ≡ Some js
    → linked_ids (xs ++ ys) ≡ Some (is ++ js)
unfolding read_all
linked-join [] ys is js h k = rw (sym (same_Some [] is h)) k
linked-join (x ∷ xs) ys is js h k = elim (cases_Bool (is_page x.url)) [
  | inl page ↦ rw page (before-join (linked_id x.url) (linked_ids xs) (linked_ids (xs ++ ys)) is js (rw page at h)
      (λ ks e. linked-join xs ys ks js e k))
  | inr other ↦ rw other (linked-join xs ys is js (rw other at h) k)
]

pub linked-more : (xs : List OsvReference) (i : ℕ) (x : OsvReference) (is js : List IdValue) → i < length xs → x ≡ get_or xs i x
    → linked_ids (take i xs) ≡ Some is → linked_ids (x ∷ []) ≡ Some js → linked_ids (take (i + 1) xs) ≡ Some (is ++ js)
linked-more xs i x is js l at h k = rw (take_more xs i x l, ← at) (linked-join (take i xs) (x ∷ []) is js h k)

pub linked-stop : (xs : List OsvReference) (i : ℕ) (x : OsvReference) → i < length xs → x ≡ get_or xs i x → linked_ids (x ∷ []) ≡ None
    → linked_ids xs ≡ None
unfolding read_all
linked-stop [] i x l at h = absurd (omega arith)
linked-stop (a ∷ xs) zero x l at h = elim (cases_Bool (is_page a.url)) [
  | inl page ↦ rw page (first-none (linked_id a.url) (linked_ids xs) (rw page at (rw at at h)))
  | inr other ↦ cc (rw other at (rw at at h))
]
linked-stop (a ∷ xs) (suc i) x l at h = elim (cases_Bool (is_page a.url)) [
  | inl page ↦ rw page (before-none (linked_id a.url) (linked_ids xs) (linked-stop xs i x (omega arith) at h))
  | inr other ↦ rw other (linked-stop xs i x (omega arith) at h)
]
