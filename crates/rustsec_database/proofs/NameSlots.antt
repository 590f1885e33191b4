-- Maps from names to slots, as contracts see them.
use Rattle.std.proofs.Common.{◌≡◌, ◌∙◌, ◌<◌, ℕ, Bool, true, false, cond, List, [], ◌∷◌, Option, Some, None, Ok, Err, length, nat_eq, refl, subst, sym, ap}
use Rattle.std.specs.Prelude.{IfSome, IsSome, OnErr, Result}
use Rattle.std.specs.Cmp.Lexicographic.{pointwise}
use Rattle.std.specs.HashMap as hash
use Rattle.std.specs.HashMap.{HashMap, UpdatesBy}
use Rattle.std.specs.Map.{lookup, set_value}
use Rattle.std.specs.declared.vec.Vec.{Vec}
use Rattle.rustsec_database.specs.Indexes.{AllRise, shown}
use Rattle.rustsec_database.specs.Slots.{Rises, or_none, slots_at}

-- the slots of a vector, or none if it is missing
abbrev pub slots_of : {Z : Type 0} → Option (Vec ℕ Z) → List ℕ
slots_of None = []
slots_of (Some v) = v.items

-- whether two names are equal
abbrev equal : List ℕ → List ℕ → Bool
equal = pointwise nat_eq

module _ {Z : Type 0} where
  or-none-cond : (b : Bool) (v : Vec ℕ Z) (o : Option (List ℕ)) (p : Option (Vec ℕ Z)) → or_none o ≡ slots_of p
      → or_none (cond b (Some v.items) o) ≡ slots_of (cond b (Some v) p)
  or-none-cond true v o p h = refl
  or-none-cond false v o p h = h

  look : (test : List ℕ → Bool) (es : List (List ℕ × Vec ℕ Z)) → or_none (lookup test (shown es)) ≡ slots_of (lookup test es)
  look test [] = refl
  look test (e ∷ es) = or-none-cond (test e.0) e.1 (lookup test (shown es)) (lookup test es) (look test es)

  slots_of-cond : (b : Bool) (o p : Option (Vec ℕ Z)) → slots_of (cond b o p) ≡ cond b (slots_of o) (slots_of p)
  slots_of-cond true o p = refl
  slots_of-cond false o p = refl

  rise-cond : (b : Bool) (v : Vec ℕ Z) (o : Option (Vec ℕ Z)) → Rises v.items → 0 < length v.items
      → IfSome o (λ v. Rises v.items × (0 < length v.items)) → IfSome (cond b (Some v) o) (λ v. Rises v.items × (0 < length v.items))
  rise-cond true v o r l h = (r, l)
  rise-cond false v o r l h = h

  same-items : (n : List ℕ) (v w : Vec ℕ Z) (es : List (List ℕ × List ℕ)) → w.items ≡ v.items → ((n, w.items) ∷ es) ≡ ((n, v.items) ∷ es)
  same-items n v w es e = ap (λ (xs : List ℕ). (n, xs) ∷ es) e

  tail-shown : (e : List ℕ × Vec ℕ Z) (es fs : List (List ℕ × Vec ℕ Z)) → shown es ≡ shown fs → shown (e ∷ es) ≡ shown (e ∷ fs)
  tail-shown e es fs h = ap (λ xs. (e.0, e.1.items) ∷ xs) h

  written-at : (b : Bool) (e : List ℕ × Vec ℕ Z) (es fs : List (List ℕ × Vec ℕ Z)) (o : Option (Vec ℕ Z)) (w : Vec ℕ Z)
      → slots_of (cond b (Some e.1) o) ≡ w.items → (slots_of o ≡ w.items → shown fs ≡ shown es)
      → shown (cond b ((e.0, w) ∷ es) (e ∷ fs)) ≡ shown (e ∷ es)
  written-at true e es fs o w h more = same-items e.0 e.1 w (shown es) (sym h)
  written-at false e es fs o w h more = tail-shown e fs es (more h)

  -- contracts see the same map after a vector is written back with the same elements
  pub written : (test : List ℕ → Bool) (es : List (List ℕ × Vec ℕ Z)) (w : Vec ℕ Z) → slots_of (lookup test es) ≡ w.items
      → shown (set_value test es w) ≡ shown es
  written test [] w h = refl
  written test (e ∷ es) w h = written-at (test e.0) e es (set_value test es w) (lookup test es) w h (λ k. written test es w k)

  pub is-there : (v : Vec ℕ Z) (o : Option (Vec ℕ Z)) → Some v ≡ o → IsSome o
  is-there v o is = subst (λ o. IsSome o) is refl

-- ---- hash maps

module _ {Z S : Type 0} where
  -- the slots that contracts see under a name are those of the map
  pub seen-at : (name : List ℕ) (m : HashMap (List ℕ) (Vec ℕ Z) S) → slots_at name (shown m.entries) ≡ slots_of (hash.get equal m name)
  seen-at name m = look (equal name) m.entries

  -- a map after one vector was put under a name
  pub seen-updated : (m n : HashMap (List ℕ) (Vec ℕ Z) S) (key : List ℕ) (v : Vec ℕ Z) → UpdatesBy equal (equal key) m n (Some v)
      → (name : List ℕ) → slots_at name (shown n.entries) ≡ cond (pointwise nat_eq key name) v.items (slots_at name (shown m.entries))
  seen-updated m n key v h name =
      seen-at name n ∙ ap slots_of (h.0 name) ∙ slots_of-cond (equal key name) (Some v) (hash.get equal m name)
      ∙ ap (λ xs. cond (pointwise nat_eq key name) v.items xs) (sym (seen-at name m))

  pub rise-updated : (m n : HashMap (List ℕ) (Vec ℕ Z) S) (key : List ℕ) (v : Vec ℕ Z) → UpdatesBy equal (equal key) m n (Some v)
      → Rises v.items → 0 < length v.items → AllRise m → AllRise n
  rise-updated m n key v h r l all name =
      rw (h.0 name) (rise-cond (equal key name) v (hash.get equal m name) r l (all name))

  -- the slots that were found under a name are those that contracts see there
  pub found-slots : (name : List ℕ) (m : HashMap (List ℕ) (Vec ℕ Z) S) (index : List (List ℕ × List ℕ)) (v : Vec ℕ Z)
      → shown m.entries ≡ index → Some v ≡ hash.get equal m name → slots_at name index ≡ v.items
  found-slots name m index v view is = ap (slots_at name) (sym view) ∙ (seen-at name m ∙ ap slots_of (sym is))

  pub no-slots : (name : List ℕ) (m : HashMap (List ℕ) (Vec ℕ Z) S) (index : List (List ℕ × List ℕ))
      → shown m.entries ≡ index → None ≡ hash.get equal m name → slots_at name index ≡ []
  no-slots name m index view is = ap (slots_at name) (sym view) ∙ (seen-at name m ∙ ap slots_of (sym is))

  pub rise-found : (name : List ℕ) (m : HashMap (List ℕ) (Vec ℕ Z) S) (v : Vec ℕ Z) → AllRise m → Some v ≡ hash.get equal m name
      → Rises v.items × (0 < length v.items)
  rise-found name m v all is = subst (λ o. IfSome o (λ v. Rises v.items × (0 < length v.items))) (sym is) (all name)

  -- as `seen-updated`, for a key, slots and an index that equal those of the maps
  pub put-seen : (m n : HashMap (List ℕ) (Vec ℕ Z) S) (key k : List ℕ) (v : Vec ℕ Z) (slots : List ℕ) (index : List (List ℕ × List ℕ))
      → k ≡ key → v.items ≡ slots → shown m.entries ≡ index → UpdatesBy equal (equal k) m n (Some v)
      → (name : List ℕ) → slots_at name (shown n.entries) ≡ cond (pointwise nat_eq key name) slots (slots_at name index)
  put-seen m n key k v slots index same are view h name =
      seen-updated m n k v h name ∙ (λ i. cond (pointwise nat_eq (same i) name) (are i) (slots_at name (view i)))

pub on-err : {A E P : Type 0} (r : Result A E) → P → OnErr r P
on-err (Ok x) p = tt
on-err (Err e) p = p
