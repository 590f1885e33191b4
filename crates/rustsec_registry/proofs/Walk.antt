-- The answers for packages, one after another.
use Rattle.std.proofs.Common.{◌≡◌, ◌∙◌, ◌+◌, ◌<◌, ◌++◌, ℕ, List, [], ◌∷◌, Some, None, get_or, length, map, take, sym, ap}
use Rattle.std.specs.Prelude.{Result}
use Rattle.std.specs.Borrow.{Bor}
use Rattle.std.specs.List.{cons_option}
use Rattle.std.proofs.lemmas.List.{append-nil, map-append, map_more}
use Rattle.std.proofs.lemmas.List.Elements.{filter_map-append}
use Rattle.rustsec_values.specs.Failure.{Failure}
use Rattle.rustsec_lock.specs.Package.{PackageValue}
use Rattle.rustsec_registry.specs.Lookups.{Kept, at}
use Rattle.rustsec_registry.specs.Yanked.{by_name, seen, yanked_answers}

abbrev read : Bor PackageValue → PackageValue
read p = p.now

-- one more package
step : (kept : List (List ℕ × Kept)) (ps : List (Bor PackageValue)) (i : ℕ) (p : Bor PackageValue) → i < length ps → p ≡ get_or ps i p
    → yanked_answers kept (map read (take (i + 1) ps)) ≡ yanked_answers kept (map read (take i ps)) ++ cons_option (by_name p.now (at p.now.name kept)) []
step kept ps i p l is =
    rw (map_more read ps i p l, ← is) (filter_map-append (λ (q : PackageValue). by_name q (at q.name kept)) (map read (take i ps)) (p.now ∷ []))

-- a package with an answer
pub step-some : (kept : List (List ℕ × Kept)) (ps : List (Bor PackageValue)) (i : ℕ) (p : Bor PackageValue)
    (answers : List (Result (Bor PackageValue) Failure)) (a : Result (Bor PackageValue) Failure) → i < length ps → p ≡ get_or ps i p
    → map seen answers ≡ yanked_answers kept (map (λ x. x.now) (take i ps)) → Some (seen a) ≡ by_name p.now (at p.now.name kept)
    → map seen (answers ++ a ∷ []) ≡ yanked_answers kept (map (λ x. x.now) (take (i + 1) ps))
step-some kept ps i p answers a l is before this =
    map-append seen answers (a ∷ []) ∙ (ap (λ xs. xs ++ seen a ∷ []) before
    ∙ (ap (λ o. yanked_answers kept (map read (take i ps)) ++ cons_option o []) this ∙ sym (step kept ps i p l is)))

-- a package that is skipped
pub step-none : (kept : List (List ℕ × Kept)) (ps : List (Bor PackageValue)) (i : ℕ) (p : Bor PackageValue)
    (answers : List (Result (Bor PackageValue) Failure)) → i < length ps → p ≡ get_or ps i p
    → map seen answers ≡ yanked_answers kept (map (λ x. x.now) (take i ps)) → None ≡ by_name p.now (at p.now.name kept)
    → map seen answers ≡ yanked_answers kept (map (λ x. x.now) (take (i + 1) ps))
step-none kept ps i p answers l is before this =
    before ∙ (sym (append-nil _)
    ∙ (ap (λ o. yanked_answers kept (map read (take i ps)) ++ cons_option o []) this ∙ sym (step kept ps i p l is)))
