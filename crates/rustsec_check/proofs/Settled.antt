-- Advisories that affect no version from the locked one on change nothing about how a package can be mended.
use Rattle.std.proofs.Common.{◌≡◌, ◌∙◌, ◌||◌, Bool, true, false, List, [], ◌∷◌, Option, ap, cond, inl, inr, not, refl, sym}
use Rattle.std.specs.List.{All, filter}
use Rattle.std.proofs.lemmas.List.Elements.{All-cons, All-head, All-nil, All-tail}
use Rattle.semver.specs.Parse.{Parts}
use Rattle.rustsec_versions.specs.acceptance.Lists.{Lists, affected}
use Rattle.rustsec_versions.specs.order.Precedence.{is_at_most}
use Rattle.rustsec_texts.specs.Ids.{IdValue}
use Rattle.rustsec_advisory.specs.declared.advisory.Advisory.{Advisory}
use Rattle.rustsec_report.specs.Report.{is_among}
use Rattle.rustsec_check.specs.LeastFree.{IsLeastFree, is_affected}
use Rattle.rustsec_check.specs.Updates.{AreIdsOf, IsMover, IsUpdateFor, Moves, UpdateValue, in_force, lists_of}
use Rattle.rustsec_check.proofs.Movers.{ids-alike}
use Rattle.rustsec_check.proofs.Sweep.{at_most-refl}

-- ---- filters

module _ {A : Type 0} where
  swap-step : (p q : A → Bool) (x : A) (xs : List A) (b c : Bool) → p x ≡ b → q x ≡ c → filter p (filter q xs) ≡ filter q (filter p xs)
      → filter p (filter q (x ∷ xs)) ≡ filter q (filter p (x ∷ xs))
  swap-step p q x xs true true is has h = rw (is, has) (rw is (ap (λ (ys : List A). x ∷ ys) h))
  swap-step p q x xs true false is has h = rw (is, has) h
  swap-step p q x xs false true is has h = rw (is, has) (rw is h)
  swap-step p q x xs false false is has h = rw (is, has) h

  -- the order of two filters does not matter
  pub swapped : (p q : A → Bool) (xs : List A) → filter p (filter q xs) ≡ filter q (filter p xs)
  swapped p q [] = refl
  swapped p q (x ∷ xs) = swap-step p q x xs (p x) (q x) refl refl (swapped p q xs)

  each-step : (p : A → Bool) (Q : A → Type 0) (x : A) (us : List A) (b : Bool) → p x ≡ b → (p x ≡ true → Q x) → All Q us → All Q (cond b (x ∷ us) us)
  each-step p Q x us true is holds each = All-cons Q x us (holds is) each
  each-step p Q x us false is holds each = each

  -- what is true of each element that passes a test is true of those that a filter keeps
  pub each-kept : (p : A → Bool) (Q : A → Type 0) → ((x : A) → p x ≡ true → Q x) → (xs : List A) → All Q (filter p xs)
  each-kept p Q holds [] = All-nil Q
  each-kept p Q holds (x ∷ xs) = each-step p Q x (filter p xs) (p x) refl (holds x) (each-kept p Q holds xs)

-- ---- which versions are affected

-- an advisory affects no version from one on
abbrev pub IsSettled : Parts → Advisory → Type 0
IsSettled v a = (w : Parts) → is_at_most v w ≡ true → affected a.versions w ≡ false

-- two lists leave the same versions affected, of those from one on
abbrev AffectSame : Parts → List Lists → List Lists → Type 0
AffectSame v some all = (w : Parts) → is_at_most v w ≡ true → is_affected some w ≡ is_affected all w

module _ (test : Advisory → Bool) (v : Parts) where
  -- an advisory is settled if it does not pass the test
  abbrev pub IsSettledElse : Advisory → Type 0
  IsSettledElse a = test a ≡ false → IsSettled v a

  affect-step : (x : Advisory) (xs : List Advisory) (w : Parts) (b : Bool) → test x ≡ b → is_at_most v w ≡ true → IsSettledElse x
      → is_affected (lists_of (filter test xs)) w ≡ is_affected (lists_of xs) w
      → is_affected (lists_of (filter test (x ∷ xs))) w ≡ is_affected (lists_of (x ∷ xs)) w
  affect-step x xs w true is at settled h = rw is (ap (λ c. affected x.versions w || c) h)
  affect-step x xs w false is at settled h = rw is (h ∙ sym (ap (λ c. c || is_affected (lists_of xs) w) (settled is w at)))

  affect-same : (xs : List Advisory) → All IsSettledElse xs → AffectSame v (lists_of (filter test xs)) (lists_of xs)
  affect-same [] each w at = refl
  affect-same (x ∷ xs) each w at =
      affect-step x xs w (test x) refl at (All-head IsSettledElse x xs each) (affect-same xs (All-tail IsSettledElse x xs each) w at)

  settled-step : (p : Advisory → Bool) (x : Advisory) (us : List Advisory) (b : Bool) → IsSettledElse x → All IsSettledElse us → All IsSettledElse (cond b (x ∷ us) us)
  settled-step p x us true here each = All-cons IsSettledElse x us here each
  settled-step p x us false here each = each

  settled-kept : (p : Advisory → Bool) (xs : List Advisory) → All IsSettledElse xs → All IsSettledElse (filter p xs)
  settled-kept p [] each = each
  settled-kept p (x ∷ xs) each =
      settled-step p x (filter p xs) (p x) (All-head IsSettledElse x xs each) (settled-kept p xs (All-tail IsSettledElse x xs each))

  -- with another one
  with-own : (a : Advisory) (xs : List Advisory) → All IsSettledElse xs → AffectSame v (lists_of (a ∷ filter test xs)) (lists_of (a ∷ xs))
  with-own a xs each w at = ap (λ c. affected a.versions w || c) (affect-same xs each w at)

  -- with another one, of those that are not ignored
  in-force-same : (ids : List IdValue) (a : Advisory) (xs : List Advisory) → All IsSettledElse xs
      → AffectSame v (lists_of (a ∷ in_force ids (filter test xs))) (lists_of (a ∷ in_force ids xs))
  in-force-same ids a xs each w at =
      let n : Advisory → Bool = λ b. not (is_among ids b.metadata.id) in
      ap (λ (ys : List Advisory). is_affected (lists_of (a ∷ ys)) w) (swapped n test xs)
      ∙ with-own a (filter n xs) (settled-kept n xs each) w at

  -- ---- the least free version

  least-same : (some all : List Lists) (found : Option Parts) → AffectSame v some all → IsLeastFree some v found → IsLeastFree all v found
  least-same some all found same h = record {
    some = λ w is. (let s = h.some w is in (s.0, s.1, sym (same w s.1) ∙ s.2));
    least = λ w is u valid at free. h.least w is u valid at (same u at ∙ free);
    none = λ is u valid at. sym (same u at) ∙ h.none is u valid at;
    itself = λ free. h.itself (same v (at_most-refl v) ∙ free);
    plain = λ w is hit. h.plain w is (same v (at_most-refl v) ∙ hit);
  }

  -- ---- the ignored advisories that move it

  moves-same : (some all : List Lists) (answer : Option Parts) (ls : Lists) → AffectSame v some all → Moves some v answer ls → Moves all v answer ls
  moves-same some all answer ls same h = record {
    at = h.at;
    valid = h.valid;
    from = h.from;
    below = h.below;
    held = h.held;
    is_free = sym (same h.at h.from) ∙ h.is_free;
  }

  ids-step : (P : Advisory → Type 0) (x : Advisory) (xs : List Advisory) (ids : List IdValue) (b : Bool) → test x ≡ b → (test x ≡ false → ¬ P x)
      → ((some : List IdValue) → AreIdsOf P (filter test xs) some → AreIdsOf P xs some) → AreIdsOf P (cond b (x ∷ filter test xs) (filter test xs)) ids
      → AreIdsOf P (x ∷ xs) ids
  ids-step P x xs ids true is never more (inl (here, rest, at, h)) = inl (here, rest, at, more rest h)
  ids-step P x xs ids true is never more (inr (other, h)) = inr (other, more ids h)
  ids-step P x xs ids false is never more h = inr (never is, more ids h)

  -- those that are left out move nothing
  ids-wider : (P : Advisory → Type 0) → ((a : Advisory) → IsSettled v a → ¬ P a) → (xs : List Advisory) (ids : List IdValue) → All IsSettledElse xs
      → AreIdsOf P (filter test xs) ids → AreIdsOf P xs ids
  ids-wider P never [] ids each h = h
  ids-wider P never (x ∷ xs) ids each h =
      ids-step P x xs ids (test x) refl (λ is. never x (All-head IsSettledElse x xs each is))
      (λ some k. ids-wider P never xs some (All-tail IsSettledElse x xs each) k) h

  -- ---- how a package can be mended

  pub update-kept : (ids : List IdValue) (others : List Advisory) (a : Advisory) (u : UpdateValue) → All IsSettledElse others
      → IsUpdateFor ids (a ∷ []) (filter test others) v u → IsUpdateFor ids (a ∷ []) others v u
  update-kept ids others a u each h =
      let some = lists_of (a ∷ in_force ids (filter test others)) in
      let all = lists_of (a ∷ in_force ids others) in
      let same : AffectSame v some all = in-force-same ids a others each in
      let back : AffectSame v all some = λ w from. sym (same w from) in
      let P : Advisory → Type 0 = IsMover ids some v u.least_free in
      let Q : Advisory → Type 0 = IsMover ids all v u.least_free in
      record {
        least_free = least-same (lists_of (a ∷ filter test others)) (lists_of (a ∷ others)) u.least_free (with-own a others each) h.least_free;
        is_compatible = h.is_compatible;
        moved_by = ids-wider Q (λ b settled q. cc (sym q.1.held ∙ settled q.1.at q.1.from)) others u.moved_by each
            (ids-alike P Q (λ b m. (m.0, moves-same some all u.least_free b.versions same m.1)) (λ b m. (m.0, moves-same all some u.least_free b.versions back m.1))
            (filter test others) u.moved_by h.moved_by);
      }
