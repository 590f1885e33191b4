-- The IDs of the advisories that pass a test.
use Rattle.std.proofs.Common.{◌≡◌, ◌∙◌, ◌≤◌, ◌||◌, Bool, true, false, List, [], ◌∷◌, ◌++◌, Err, IfOk, Ok, Result, ap, arith, inl, inr, length, map, not, refl, subst, suc, sym}
use Rattle.std.specs.Bool.{Decides}
use Rattle.std.specs.Borrow.{Bor}
use Rattle.std.specs.List.{filter, list_any}
use Rattle.rustsec_values.specs.Failure.{Failure}
use Rattle.rustsec_texts.specs.Ids.{IdValue}
use Rattle.rustsec_advisory.specs.declared.advisory.Advisory.{Advisory}
use Rattle.rustsec_check.specs.Updates.{AreIdsOf}

module _ (P : Advisory → Type 0) where
  -- one more advisory that passes, and one that does not
  pub ids-more : (xs : List Advisory) (ids : List IdValue) (a : Advisory) → AreIdsOf P xs ids → P a → AreIdsOf P (xs ++ a ∷ []) (ids ++ a.metadata.id ∷ [])
  ids-more [] ids a is holds = inl (holds, [], ap (λ (xs : List IdValue). xs ++ a.metadata.id ∷ []) is, refl)
  ids-more (x ∷ xs) ids a (inl (here, rest, is, more)) holds =
      inl (here, rest ++ a.metadata.id ∷ [], ap (λ (xs : List IdValue). xs ++ a.metadata.id ∷ []) is, ids-more xs rest a more holds)
  ids-more (x ∷ xs) ids a (inr (other, more)) holds = inr (other, ids-more xs ids a more holds)

  pub ids-same : (xs : List Advisory) (ids : List IdValue) (a : Advisory) → AreIdsOf P xs ids → ¬ P a → AreIdsOf P (xs ++ a ∷ []) ids
  ids-same [] ids a is never = inr (never, is)
  ids-same (x ∷ xs) ids a (inl (here, rest, is, more)) never = inl (here, rest, is, ids-same xs rest a more never)
  ids-same (x ∷ xs) ids a (inr (other, more)) never = inr (other, ids-same xs ids a more never)

  -- the answer of a test of one more
  pub ids-next : (b : Bool) (xs : List Advisory) (ids new : List IdValue) (a : Advisory) → Decides b (P a) → AreIdsOf P xs ids
      → (b ≡ true → new ≡ ids ++ a.metadata.id ∷ []) → (b ≡ false → new ≡ ids) → AreIdsOf P (xs ++ a ∷ []) new
  ids-next true xs ids new a decides is hit miss = subst (AreIdsOf P (xs ++ a ∷ [])) (sym (hit refl)) (ids-more xs ids a is (decides.0 refl))
  ids-next false xs ids new a decides is hit miss = subst (AreIdsOf P (xs ++ a ∷ [])) (sym (miss refl)) (ids-same xs ids a is (λ h. cc (decides.1 h)))

module _ (P Q : Advisory → Type 0) where
  -- what is true of none still is if less is true
  pub none-less : ((a : Advisory) → Q a → P a) → (xs : List Advisory) (ids : List IdValue) → ids ≡ [] → AreIdsOf P xs ids → AreIdsOf Q xs ids
  none-less less [] ids none is = is
  none-less less (x ∷ xs) ids none (inl (here, rest, is, more)) = cc (sym is ∙ none)
  none-less less (x ∷ xs) ids none (inr (other, more)) = inr (λ h. other (less x h), none-less less xs ids none more)

  -- what is true of the same ones
  pub ids-alike : ((a : Advisory) → P a → Q a) → ((a : Advisory) → Q a → P a) → (xs : List Advisory) (ids : List IdValue) → AreIdsOf P xs ids → AreIdsOf Q xs ids
  ids-alike to from [] ids is = is
  ids-alike to from (x ∷ xs) ids (inl (here, rest, is, more)) = inl (to x here, rest, is, ids-alike to from xs rest more)
  ids-alike to from (x ∷ xs) ids (inr (other, more)) = inr (λ h. other (from x h), ids-alike to from xs ids more)

-- there is one list of these IDs
pub one-ids : (P : Advisory → Type 0) (xs : List Advisory) (ids others : List IdValue) → AreIdsOf P xs ids → AreIdsOf P xs others → ids ≡ others
one-ids P [] ids others h k = h ∙ sym k
one-ids P (x ∷ xs) ids others (inl (a, rest, is, more)) (inl (b, tail, has, all)) =
    is ∙ (ap (λ (ys : List IdValue). x.metadata.id ∷ ys) (one-ids P xs rest tail more all) ∙ sym has)
one-ids P (x ∷ xs) ids others (inl (a, rest, is, more)) (inr (never, k)) = absurd (never a)
one-ids P (x ∷ xs) ids others (inr (never, h)) (inl (b, tail, has, all)) = absurd (never b)
one-ids P (x ∷ xs) ids others (inr (a, h)) (inr (b, k)) = one-ids P xs ids others h k

-- a test of what references point at
pub any-now : (p : Advisory → Bool) (xs : List (Bor Advisory)) → list_any (λ a. p a.now) xs ≡ list_any p (map (λ (a : Bor Advisory). a.now) xs)
any-now p [] = refl
any-now p (x ∷ xs) = ap (λ (b : Bool). p x.now || b) (any-now p xs)

-- what is decided once it is known that the advisory is ignored
pub decided : (r : Result Bool Failure) (b : Bool) (P : Type 0) → b ≡ true → IfOk r (λ x. Decides x P) → IfOk r (λ x. Decides x ((b ≡ true) × P))
decided (Ok x) b P is h = (λ e. (is, h.0 e), λ p. h.1 p.1)
decided (Err e) b P is h = h

-- ---- none is ignored

at-most-case : (p : Advisory → Bool) (b : Bool) (x : Advisory) (xs : List Advisory) → p x ≡ b → length (filter p xs) ≤ length xs → length (filter p (x ∷ xs)) ≤ suc (length xs)
at-most-case p true x xs e l = rw e (omega (arith, l))
at-most-case p false x xs e l = rw e (omega (arith, l))

at-most : (p : Advisory → Bool) (xs : List Advisory) → length (filter p xs) ≤ length xs
at-most p [] = omega arith
at-most p (x ∷ xs) = at-most-case p (p x) x xs refl (at-most p xs)

module _ (among : Advisory → Bool) (P : Advisory → Type 0) (ignored : (a : Advisory) → P a → among a ≡ true) where
  none-case : (b : Bool) (x : Advisory) (xs : List Advisory) → among x ≡ b → length (filter (λ y. not (among y)) (x ∷ xs)) ≡ suc (length xs)
      → (length (filter (λ y. not (among y)) xs) ≡ length xs → AreIdsOf P xs []) → AreIdsOf P (x ∷ xs) []
  none-case true x xs e k none = let few = at-most (λ y. not (among y)) xs in absurd (omega (arith, few, rw e at k))
  none-case false x xs e k none = inr (λ h. cc (sym e ∙ ignored x h), none (omega (arith, rw e at k)))

  -- if as many are in force as there are, none is ignored
  pub none-ignored : (xs : List Advisory) → length (filter (λ x. not (among x)) xs) ≡ length xs → AreIdsOf P xs []
  none-ignored [] h = refl
  none-ignored (x ∷ xs) h = none-case (among x) x xs refl h (none-ignored xs)
