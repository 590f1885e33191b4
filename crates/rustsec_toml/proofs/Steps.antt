-- A byte order mark, and texts after tokens.
use Rattle.std.proofs.Common.{◌≡◌, ◌∙◌, ap, ℕ, List, None, drop, false, sym, subst, true}
use Rattle.std.proofs.lemmas.Str.Pattern.{starts_text}
use Rattle.std.specs.List.{starts_with}
use Rattle.std.specs.Str.{IsCharBoundary}
use Rattle.std.specs.Str.Pattern.{FindsTextPrefix, StripsPrefix}
use Rattle.std.proofs.Common.{nat_eq, refl}
use Rattle.rustsec_toml.specs.Places.{mark, skip_mark}

module _ (text : List ℕ) where
  pub unmarked : (rest : List ℕ) → StripsPrefix (FindsTextPrefix mark) text rest → rest ≡ skip_mark text
  unmarked rest (n, finds, cut, more) =
      let e : true ≡ starts_with nat_eq text mark = starts_text true mark text (n, finds, subst (λ k. IsCharBoundary text k) (sym finds.0) finds.2) in
      rw (sym e) (cut ∙ ap (λ k. drop k text) finds.0)

  pub as-it-is : FindsTextPrefix mark text None → text ≡ skip_mark text
  as-it-is h = rw (sym (starts_text false mark text h)) refl
