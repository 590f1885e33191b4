-- Reading a list value by value.
use Rattle.std.proofs.Common.{◌≡◌, ℕ, zero, suc, ◌+◌, ◌<◌, List, [], ◌∷◌, ◌++◌, length, get_or, take, map, Option, Some, None, refl, sym, arith}
use Rattle.std.proofs.lemmas.List.{get_or-map, length-map, map_more, take_more}
use Rattle.rustsec_values.specs.Reading.{before, read_all}

some-inj : {B : Type 0} (a b : B) → Some a ≡ Some b → a ≡ b
some-inj a b h = cc h

before-push : {B : Type 0} (h : Option B) (r s : Option (List B)) (ys : List B) (y : B) → before h r ≡ Some ys
    → ((zs : List B) → r ≡ Some zs → s ≡ Some (zs ++ y ∷ [])) → before h s ≡ Some (ys ++ y ∷ [])
before-push None r s ys y e f = cc e
before-push (Some a) None s ys y e f = cc e
before-push (Some a) (Some zs) s ys y e f = rw (f zs refl, sym (some-inj (a ∷ zs) ys e)) refl

before-none : {B : Type 0} (h : Option B) (r : Option (List B)) → r ≡ None → before h r ≡ None
before-none None r e = refl
before-none (Some a) r e = rw e refl

module _ {A B : Type 0} (f : A → Option B) where
  pub read_all-nil : read_all f [] ≡ Some []
  unfolding read_all
  read_all-nil = refl

  -- one more value that was read
  pub read_all-push : (xs : List A) (ys : List B) (x : A) (y : B) → read_all f xs ≡ Some ys → f x ≡ Some y
      → read_all f (xs ++ x ∷ []) ≡ Some (ys ++ y ∷ [])
  unfolding read_all
  read_all-push [] ys x y h e = rw (e, sym (some-inj _ _ h)) refl
  read_all-push (a ∷ xs) ys x y h e = before-push (f a) (read_all f xs) _ ys y h (λ zs k. read_all-push xs zs x y k e)

  -- a value that is refused
  pub read_all-stops : (xs : List A) (i : ℕ) (d : A) → i < length xs → f (get_or xs i d) ≡ None → read_all f xs ≡ None
  unfolding read_all
  read_all-stops [] i d h e = absurd (omega arith)
  read_all-stops (a ∷ xs) zero d h e = rw e refl
  read_all-stops (a ∷ xs) (suc i) d h e = before-none (f a) _ (read_all-stops xs i d (omega arith) e)

  -- the next value of a list, in a loop
  pub read_all-more : (xs : List A) (i : ℕ) (x : A) (ys : List B) (y : B) → i < length xs → x ≡ get_or xs i x
      → read_all f (take i xs) ≡ Some ys → f x ≡ Some y → read_all f (take (i + 1) xs) ≡ Some (ys ++ y ∷ [])
  read_all-more xs i x ys y l at h e = rw (take_more xs i x l, ← at) (read_all-push (take i xs) ys x y h e)

  pub read_all-stop : (xs : List A) (i : ℕ) (x : A) → i < length xs → x ≡ get_or xs i x → f x ≡ None → read_all f xs ≡ None
  read_all-stop xs i x l at e = read_all-stops xs i x l (rw (← at) e)

-- likewise, for what contracts see of the values
module _ {V A B : Type 0} (view : V → A) (f : A → Option B) where
  pub read_map-more : (vs : List V) (i : ℕ) (v : V) (ys : List B) (y : B) → i < length vs → v ≡ get_or vs i v
      → read_all f (map view (take i vs)) ≡ Some ys → f (view v) ≡ Some y → read_all f (map view (take (i + 1) vs)) ≡ Some (ys ++ y ∷ [])
  read_map-more vs i v ys y l at h e =
      rw (map_more view vs i v l, ← at) (read_all-push f (map view (take i vs)) ys (view v) y h e)

  pub read_map-stop : (vs : List V) (i : ℕ) (v : V) → i < length vs → v ≡ get_or vs i v → f (view v) ≡ None
      → read_all f (map view vs) ≡ None
  read_map-stop vs i v l at e =
      read_all-stops f (map view vs) i (view v) (simp length-map l) (rw (get_or-map view vs i v (view v) l, ← at) e)
