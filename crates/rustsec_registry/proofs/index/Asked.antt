-- The packages that are asked, and the answers that are taken, one after another.
use Rattle.std.proofs.Common.{◌≡◌, ◌≢◌, ◌∙◌, ◌⊎◌, ◌+◌, ◌<◌, ◌++◌, ℕ, List, [], ◌∷◌, Err, ap, drop, get_or, inl, inr, length, map, suc, sym, take}
use Rattle.std.specs.Prelude.{Result}
use Rattle.std.specs.Borrow.{Bor}
use Rattle.std.specs.List.{AllByRecursion}
use Rattle.std.proofs.Common.{add-one, drop-cons}
use Rattle.std.proofs.lemmas.List.{map-append, map_more, take-append-drop, take_more}
use Rattle.std.proofs.lemmas.List.Elements.{filter-append, filter_map-append}
use Rattle.rustsec_values.specs.Failure.{Failure, IsMemory}
use Rattle.rustsec_values.specs.declared.error.ErrorKind.TheVariants as kind
use Rattle.rustsec_lock.specs.Package.{PackageValue}
use Rattle.rustsec_values.specs.Reading.{value_of}
use Rattle.rustsec_registry.specs.Yanked.{seen}
use Rattle.rustsec_registry.specs.index.YankedPackages.{IsFirstOther, IsTaken, asked, is_asked, message_of, messages_in, packages_in}

-- ---- packages

pub asked-more : (ps : List PackageValue) (i : ℕ) (p : PackageValue) → i < length ps → p ≡ get_or ps i p
    → asked (take (i + 1) ps) ≡ asked (take i ps) ++ asked (p ∷ [])
asked-more ps i p l at = rw (take_more ps i p l, ← at) (filter-append is_asked (take i ps) (p ∷ []))

pub asked-push : (ps copies new : List PackageValue) (i : ℕ) (p : PackageValue) → i < length ps → p ≡ get_or ps i p
    → copies ≡ asked (take i ps) → new ≡ copies ++ asked (p ∷ []) → new ≡ asked (take (i + 1) ps)
asked-push ps copies new i p l at before now = now ∙ (ap (λ xs. xs ++ asked (p ∷ [])) before ∙ sym (asked-more ps i p l at))

-- ---- answers

abbrev Answers : Type 0
Answers = List (Result (Bor PackageValue) Failure)

pub taken-push : (rs : List (Result PackageValue Failure)) (r : Result PackageValue Failure) → AllByRecursion IsTaken rs → IsTaken r
    → AllByRecursion IsTaken (rs ++ r ∷ [])
taken-push [] r h k = (k, tt)
taken-push (x ∷ rs) r h k = (h.0, taken-push rs r h.1 k)

module _ (answers : List (Result (Bor PackageValue) Failure)) (i : ℕ) (a : Result (Bor PackageValue) Failure) (l : i < length answers)
    (at : a ≡ get_or answers i a) where
  seen-more : map seen (take (i + 1) answers) ≡ map seen (take i answers) ++ seen a ∷ []
  seen-more = map_more seen answers i a l ∙ ap (λ x. map seen (take i answers) ++ seen x ∷ []) (sym at)

  pub all-push : AllByRecursion IsTaken (map seen (take i answers)) → IsTaken (seen a) → AllByRecursion IsTaken (map seen (take (i + 1) answers))
  all-push h k = rw seen-more (taken-push (map seen (take i answers)) (seen a) h k)

  pub packages-push : (before new : List PackageValue) → before ≡ packages_in (map seen (take i answers)) → new ≡ before ++ packages_in (seen a ∷ [])
      → new ≡ packages_in (map seen (take (i + 1) answers))
  packages-push before new h k =
      k ∙ (ap (λ xs. xs ++ packages_in (seen a ∷ [])) h
      ∙ (sym (filter_map-append (λ (r : Result PackageValue Failure). value_of r) (map seen (take i answers)) (seen a ∷ [])) ∙ ap packages_in (sym seen-more)))

  pub messages-push : (before new : List (List ℕ)) → before ≡ messages_in (map seen (take i answers)) → new ≡ before ++ messages_in (seen a ∷ [])
      → new ≡ messages_in (map seen (take (i + 1) answers))
  messages-push before new h k =
      k ∙ (ap (λ xs. xs ++ messages_in (seen a ∷ [])) h
      ∙ (sym (filter_map-append message_of (map seen (take i answers)) (seen a ∷ [])) ∙ ap messages_in (sym seen-more)))

  drop-at : drop i answers ≡ a ∷ drop (i + 1) answers
  drop-at = rw (add-one, drop-cons answers i a) (ap (λ x. x ∷ drop (suc i) answers) (sym at))

  parts : map seen answers ≡ map seen (take i answers) ++ seen a ∷ map seen (drop (i + 1) answers)
  parts = ap (map seen) (sym (take-append-drop i answers)) ∙ (map-append seen (take i answers) (drop i answers)
      ∙ ap (λ xs. map seen (take i answers) ++ map seen xs) drop-at)

  pub first-other : (e : Failure) → AllByRecursion IsTaken (map seen (take i answers)) → e.kind ≢ kind.NotFound → seen a ≡ Err e
      → IsFirstOther (map seen answers) e
  first-other e all other is = record {
    before = map seen (take i answers);
    after = map seen (drop (i + 1) answers);
    answers_are = parts ∙ ap (λ x. map seen (take i answers) ++ x ∷ map seen (drop (i + 1) answers)) is;
    all = all;
    other = other;
  }

  pub stops-here : (e : Failure) → AllByRecursion IsTaken (map seen (take i answers)) → ((e.kind ≢ kind.NotFound) × (seen a ≡ Err e)) ⊎ IsMemory e
      → IsFirstOther (map seen answers) e ⊎ IsMemory e
  stops-here e all (inl h) = inl (first-other e all h.0 h.1)
  stops-here e all (inr memory) = inr memory
