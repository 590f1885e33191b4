-- The value at a text in a map that is ordered by texts.
use Rattle.std.proofs.Common.{◌≡◌, ◌∙◌, ℕ, Bool, true, false, cond, List, [], ◌∷◌, Some, Ordering, Less, Equal, Greater, nat_eq, refl, sym, ap}
use Rattle.std.specs.BTreeMap.{insert_entry, is_at}
use Rattle.std.specs.Cmp.{tied_itself}
use Rattle.std.specs.Cmp.Lexicographic.{bytes_decides, nat_list_cmp_total, pointwise, slice_cmp, texts_ties}
use Rattle.std.specs.Map.{lookup}
use Rattle.std.specs.Ordering.{is_eq, match_ordering, nat_cmp}
use Rattle.rustsec_registry.specs.Lookups.{at}

-- texts are ordered by their bytes
abbrev pub texts : List ℕ → List ℕ → Ordering
texts = slice_cmp nat_cmp

cond-twice : {A : Type 0} (b : Bool) (x y z : A) → cond b x z ≡ cond b x (cond b y z)
cond-twice true x y z = refl
cond-twice false x y z = refl

cond-swap : {A : Type 0} (a b : Bool) (x y z : A) → (a ≡ true → b ≡ true → ⊥) → cond a x (cond b y z) ≡ cond b y (cond a x z)
cond-swap true true x y z apart = absurd (apart refl refl)
cond-swap true false x y z apart = refl
cond-swap false true x y z apart = refl
cond-swap false false x y z apart = refl

tied-same : (a b : List ℕ) → texts a b ≡ Equal → a ≡ b
tied-same a b h = (bytes_decides a b).0 (texts_ties a b ∙ ap is_eq h)

-- a text is not equal to both of two texts that differ
apart : (q k e : List ℕ) → texts k e ≡ Greater → pointwise nat_eq q e ≡ true → pointwise nat_eq q k ≡ true → ⊥
apart q k e above a b =
    let same : k ≡ e = sym ((bytes_decides q k).0 b) ∙ (bytes_decides q e).0 a in
    cc (sym above ∙ ap (texts k) (sym same) ∙ tied_itself nat_list_cmp_total k)

module _ {A : Type 0} where
  placed : (o : Ordering) (q k : List ℕ) (v : A) (e : List ℕ × A) (es rest : List (List ℕ × A)) → texts k e.0 ≡ o
      → at q rest ≡ cond (pointwise nat_eq q k) (Some v) (at q es)
      → at q (match_ordering o ((k, v) ∷ e ∷ es) ((e.0, v) ∷ es) (e ∷ rest)) ≡ cond (pointwise nat_eq q k) (Some v) (at q (e ∷ es))
  placed Less q k v e es rest is more = refl
  placed Equal q k v e es rest is more =
      rw (tied-same k e.0 is) (cond-twice (pointwise nat_eq q e.0) (Some v) (Some e.1) (at q es))
  placed Greater q k v e es rest is more =
      rw more (cond-swap (pointwise nat_eq q e.0) (pointwise nat_eq q k) (Some e.1) (Some v) (at q es) (apart q k e.0 is))

  -- an entry that was put into the map is at its text, and the others are unchanged
  pub at_insert : (es : List (List ℕ × A)) (q k : List ℕ) (v : A) → at q (insert_entry texts es k v) ≡ cond (pointwise nat_eq q k) (Some v) (at q es)
  at_insert [] q k v = refl
  at_insert (e ∷ es) q k v = placed (texts k e.0) q k v e es (insert_entry texts es k v) refl (at_insert es q k v)

  -- a look-up by the order of texts
  pub at_is : (es : List (List ℕ × A)) (q : List ℕ) → lookup (is_at (texts q)) es ≡ at q es
  at_is [] q = refl
  at_is (e ∷ es) q = rw (texts_ties q e.0, at_is es q) refl
