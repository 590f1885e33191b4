-- Whether a list has an element that passes a test.
use Rattle.std.proofs.Common.{◌≡◌, ◌∙◌, Bool, List, [], ◌∷◌, Option, Some, None, ap, inl, inr, refl}
use Rattle.std.specs.Borrow.{Bor}
use Rattle.std.specs.List.{find, list_any}
use Rattle.std.specs.Option.{is_some, option_copied}
use Rattle.std.proofs.lemmas.Bool.{cases_Bool}
use Rattle.rustsec_advisory.specs.declared.advisory.Advisory.{Advisory}

-- a first one is found exactly if some one is there
is_some-find : {A : Type 0} (test : A → Bool) (xs : List A) → is_some (find test xs) ≡ list_any test xs
is_some-find test [] = refl
is_some-find test (x ∷ xs) = elim (cases_Bool (test x)) [
  | inl here ↦ rw here refl
  | inr other ↦ rw other (is_some-find test xs)
]

pub known : (o : Option (Bor Advisory)) (test : Advisory → Bool) (xs : List Advisory) → option_copied o ≡ find test xs → is_some o ≡ list_any test xs
known None test xs h = ap is_some h ∙ is_some-find test xs
known (Some a) test xs h = ap is_some h ∙ is_some-find test xs
