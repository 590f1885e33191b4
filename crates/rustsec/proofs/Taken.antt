-- The elements that a loop over a vector has taken, and those that are still to come.
use Rattle.std.proofs.Common.{◌≡◌, ◌∙◌, ◌++◌, ◌∷◌, List, [], Option, Some, ap, append_assoc, sym}
use Rattle.std.proofs.lemmas.Option.{MatchOption-at_some}
use Rattle.std.specs.Vec.Iter.{into_iter_items, into_iter_steps}
use Rattle.std.specs.declared.vec.IntoIter.{IntoIter}

module _ {X Z : Type 0} (taken : List X) (s t : IntoIter X Z) (r : Option X) (x : X) (is : r ≡ Some x) (step : into_iter_steps s r t) where
  pub taken-split : taken ++ into_iter_items s ≡ taken ++ x ∷ into_iter_items t
  taken-split = ap (λ l. taken ++ l) (MatchOption-at_some _ _ x is step).0

  pub taken-more : (taken ++ x ∷ []) ++ into_iter_items t ≡ taken ++ into_iter_items s
  taken-more = append_assoc taken (x ∷ []) (into_iter_items t) ∙ sym taken-split
