-- Loops over the values of a JSON array.
use Rattle.std.proofs.Common.{◌≡◌, ℕ, ◌+◌, ◌<◌, ◌≤◌, ◌&&◌, ◌||◌, zero, suc, Bool, true, false, List, [], ◌∷◌, ap, arith, get_or, length, refl, subst, take}
use Rattle.std.proofs.lemmas.Bool.{and_right, or_right}
use Rattle.std.proofs.lemmas.List.{take_all}
use Rattle.std.proofs.lemmas.List.Folds.{list_all_more, list_any_more}
use Rattle.std.specs.List.{list_all, list_any}
use Rattle.serde_json.specs.Data.{Data}
use Rattle.serde_json.specs.View.{items_view, view}
use Rattle.serde_json.specs.declared.value.Value.{Value}
use Rattle.rustsec_osv_rules.specs.schema.Values.{every, some}

module _ (rule : Data → Bool) where
  every_view : (vs : List Value) → every rule (items_view vs) ≡ list_all (λ v. rule (view v)) vs
  every_view [] = refl
  every_view (v ∷ vs) = ap (λ b. rule (view v) && b) (every_view vs)

  some_view : (vs : List Value) → some rule (items_view vs) ≡ list_any (λ v. rule (view v)) vs
  some_view [] = refl
  some_view (v ∷ vs) = ap (λ b. rule (view v) || b) (some_view vs)

  pub every_more : (vs : List Value) (i : ℕ) (v : Value) → i < length vs → v ≡ get_or vs i v → every rule (items_view (take i vs)) ≡ true → rule (view v) ≡ true
      → every rule (items_view (take (i + 1) vs)) ≡ true
  every_more vs i v l at before e =
      rw (every_view (take (i + 1) vs), list_all_more (λ w. rule (view w)) vs i v l, ← every_view (take i vs), before, ← at) e

  pub every_stop : (vs : List Value) (i : ℕ) (v : Value) → i < length vs → v ≡ get_or vs i v → rule (view v) ≡ false → every rule (items_view vs) ≡ false
  every_stop [] i v l at e = absurd (omega arith)
  every_stop (w ∷ ws) zero v l at e = rw (← at, e)
  every_stop (w ∷ ws) (suc i) v l at e = and_right (rule (view w)) _ (every_stop ws i v (omega arith) at e)

  pub every_end : (vs : List Value) (i : ℕ) → length vs ≤ i → every rule (items_view (take i vs)) ≡ true → every rule (items_view vs) ≡ true
  every_end vs i l before = subst (λ ws. every rule (items_view ws) ≡ true) (take_all i vs l) before

  pub some_more : (vs : List Value) (i : ℕ) (v : Value) → i < length vs → v ≡ get_or vs i v → some rule (items_view (take i vs)) ≡ false → rule (view v) ≡ false
      → some rule (items_view (take (i + 1) vs)) ≡ false
  some_more vs i v l at before e =
      rw (some_view (take (i + 1) vs), list_any_more (λ w. rule (view w)) vs i v l, ← some_view (take i vs), before, ← at) e

  pub some_stop : (vs : List Value) (i : ℕ) (v : Value) → i < length vs → v ≡ get_or vs i v → rule (view v) ≡ true → some rule (items_view vs) ≡ true
  some_stop [] i v l at e = absurd (omega arith)
  some_stop (w ∷ ws) zero v l at e = rw (← at, e)
  some_stop (w ∷ ws) (suc i) v l at e = or_right (rule (view w)) _ (some_stop ws i v (omega arith) at e)

  pub some_end : (vs : List Value) (i : ℕ) → length vs ≤ i → some rule (items_view (take i vs)) ≡ false → some rule (items_view vs) ≡ false
  some_end vs i l before = subst (λ ws. some rule (items_view ws) ≡ false) (take_all i vs l) before
