use Rattle.std.proofs.Common.{◌≡◌, ap, Bool, List, rules}
use Rattle.std.specs.Borrow.{Bor}
use Rattle.std.specs.Cmp.{IsStrictWeakOrder, IsTotalOrder}
use Rattle.std.specs.Fn.{Called, ComparesAs}
use Rattle.std.specs.List.Sorted.{IsSortedBy, IsSortedByKey}
use Rattle.std.specs.Ordering.{is_lt}
use Rattle.std.specs.declared.cmp.Ordering.{Ordering}
use Rattle.std.proofs.lemmas.Fn.{always_returns_same}
use Rattle.std.proofs.lemmas.List.Sorted.{ranks_by}
use Rattle.std.proofs.lemmas.Result.{on_ok_weaker}
use Rattle.rustsec_versions.proofs.lemmas.order.PrecedenceLaws.{total}
use Rattle.rustsec_osv_rules.specs.evaluation.Event.{event_view, version_of}
use Rattle.rustsec_osv_rules.proofs.evaluation.range.sort.Goals as goal
use denote.Param.Members.{Mut}

-- sorted by a closure that compares keys
by_key : {X K F : Type 0} {R : K → K → Ordering} (o : IsTotalOrder R) (key : X → K) {g : Mut F (Bor X × (Bor X × Unit {0})) Ordering} {f : F} (xs : List X)
    → ((lt : X → X → Bool) → IsStrictWeakOrder lt → ComparesAs g lt f → IsSortedBy lt xs)
    → ((a : Bor X × (Bor X × Unit {0})) (r : Ordering) (q : F) → Called g f a r q → (r ≡ R (key a.0.now) (key a.1.0.now)) × (q ≡ f))
    → IsSortedByKey key R xs
by_key {R = R} o key {g = g} {f = f} xs up h = up (λ x y. is_lt (R (key x) (key y))) (ranks_by o key)
    (always_returns_same g (λ a r. is_lt r ≡ is_lt (R (key a.0.now) (key a.1.0.now))) f (λ a r q k. (ap is_lt (h a r q k).0, (h a r q k).1)))

pub returns-clause-sorted : goal.returns-clause-sorted
returns-clause-sorted c =
    on_ok_weaker c.sort_by.result (λ up. by_key total (λ e. version_of (event_view e)) c.sort_by.new.self.items up (λ a r q k. search rules)) c.sort_by.ensures.sorted
