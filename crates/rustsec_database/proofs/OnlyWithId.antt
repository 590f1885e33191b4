-- In a list whose advisories have IDs of their own, the first advisory with an ID is the only one.
use Rattle.std.proofs.Common.{◌≡◌, ◌∙◌, ◌∷◌, [], true, false, Bool, List, Option, Some, None, arith, cond, get_or, refl, subst, suc, sym}
use Rattle.std.specs.Prelude.{IfSome}
use Rattle.std.specs.Borrow.{Bor}
use Rattle.std.specs.List.{find}
use Rattle.std.specs.Option.{option_copied}
use Rattle.std.proofs.lemmas.List.Elements.{All-cons}
use Rattle.rustsec_texts.specs.IdOrder.{id_decides, id_eq}
use Rattle.rustsec_texts.specs.Ids.{IdValue}
use Rattle.rustsec_advisory.specs.declared.advisory.Advisory.{Advisory}
use Rattle.rustsec_database.specs.Loaded.{HaveOwnIds, IsOnlyWithId, has_id}

same-id : (id : IdValue) (a b : Advisory) → has_id id a ≡ true → has_id id b ≡ true → has_id b.metadata.id a ≡ true
same-id id a b h k = subst (λ i. id_eq i a.metadata.id ≡ true) ((id_decides id b.metadata.id).0 k) h

only-step : (id : IdValue) (b : Bool) (x : Advisory) (xs : List Advisory) (a : Advisory) → has_id id x ≡ b
    → cond b (Some x) (find (has_id id) xs) ≡ Some a → HaveOwnIds (x ∷ xs)
    → (HaveOwnIds xs → find (has_id id) xs ≡ Some a → IsOnlyWithId id xs a) → IsOnlyWithId id (x ∷ xs) a
only-step id true x xs a has found own rest =
    All-cons (λ b. has_id id b ≡ true → b ≡ a) x xs (λ _. cc found)
    (λ i d l k. absurd (cc (sym (own 0 (suc i) d (omega arith) (omega arith)) ∙ same-id id x (get_or xs i d) has k)))
only-step id false x xs a has found own rest =
    All-cons (λ b. has_id id b ≡ true → b ≡ a) x xs (λ k. absurd (cc (sym has ∙ k)))
    (rest (λ i j d l m. own (suc i) (suc j) d (omega arith) (omega arith)) found)

only-with : (id : IdValue) (xs : List Advisory) (a : Advisory) → HaveOwnIds xs → find (has_id id) xs ≡ Some a → IsOnlyWithId id xs a
only-with id [] a own found = absurd (cc found)
only-with id (x ∷ xs) a own found = only-step id (has_id id x) x xs a refl found own (only-with id xs a)

pub only_found : (id : IdValue) (xs : List Advisory) (r : Option (Bor Advisory)) → option_copied r ≡ find (has_id id) xs → HaveOwnIds xs
    → IfSome r (λ a. IsOnlyWithId id xs a.now)
only_found id xs None h own = tt
only_found id xs (Some a) h own = only-with id xs a.now own (sym h)
