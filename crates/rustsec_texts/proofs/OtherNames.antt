-- Texts that are not the name of any value of a closed table.
use Rattle.std.proofs.Common.{◌≡◌, ◌≢◌, ℕ, Bool, true, false, List, [], ◌∷◌, None, refl, sym}
use Rattle.std.specs.Prelude.{Result, Ok, Err, IfErr}
use Rattle.std.specs.List.{AllByRecursion}
use Rattle.std.specs.Cmp.Lexicographic.{bytes_decides}
use Rattle.std.specs.Str.{bytes_eq}
use Rattle.rustsec_values.specs.ClosedTables.{from_name}

other-text : (t : Bool) (a b : List ℕ) → (t ≡ true → a ≡ b) → a ≢ b → t ≡ false
other-text true a b e n = absurd (n (e refl))
other-text false a b e n = refl

pub bytes_eq-other : (a b : List ℕ) → a ≢ b → bytes_eq a b ≡ false
bytes_eq-other a b n = other-text (bytes_eq a b) a b ((bytes_decides a b).0) n

module _ {A : Type 0} (name : A → List ℕ) where
  -- a text that is not the name of any value
  pub from_name-none : (xs : List A) (text : List ℕ) → AllByRecursion (λ x. text ≢ name x) xs → from_name name xs text ≡ None
  from_name-none [] text h = refl
  from_name-none (x ∷ xs) text h = rw (bytes_eq-other (name x) text (λ e. h.0 (sym e))) (from_name-none xs text h.1)

-- a fact that holds whatever the error is
pub whatever_error : {A E P : Type 0} (r : Result A E) → P → IfErr r (λ e. P)
whatever_error (Ok x) p = tt
whatever_error (Err e) p = p
