-- Names with a known beginning.
use Rattle.std.proofs.Common.{◌≡◌, ◌∙◌, MatchOption, Bor, ℕ, false, List, [], ◌∷◌, ◌++◌, Option, Some, None, codes, refl, ap, inl, inr, eq-eqb}
use Rattle.std.proofs.lemmas.Bool.{cases_Bool}
use Rattle.std.specs.Cmp.Lexicographic.{bytes_decides}
use Rattle.std.specs.Str.{bytes_eq}
use Rattle.std.specs.Str.Pattern.{FindsTextPrefix, LacksTextAt, StripsPrefix}
use Rattle.rustsec_files.specs.Paths.{is_markdown_name}

same-front : (p a b : List ℕ) → bytes_eq (p ++ a) (p ++ b) ≡ bytes_eq a b
same-front [] a b = refl
same-front (x ∷ p) a b = rw (eq-eqb x x refl) (same-front p a b)

other-front : (p s : List ℕ) → LacksTextAt p s 0 → is_markdown_name p s ≡ false
other-front p s lacks = elim (cases_Bool (is_markdown_name p s)) [
  | inl is_so ↦ absurd (lacks (codes ".md") ((bytes_decides s (p ++ codes ".md")).0 is_so))
  | inr not_so ↦ not_so
]

-- what std's `strip_prefix` answers
pub named : (p s : List ℕ) (r : Option (Bor (List ℕ))) → MatchOption r (FindsTextPrefix p s None) (λ x. StripsPrefix (FindsTextPrefix p) s x.now)
    → MatchOption r (is_markdown_name p s ≡ false) (λ x. is_markdown_name p s ≡ bytes_eq x.now (codes ".md"))
named p s None h = other-front p s h
named p s (Some x) h = rw h.2 (ap (λ n. is_markdown_name p n) h.1.1 ∙ same-front p _ (codes ".md"))
