-- Loops that go on after each row of metrics.
use Rattle.std.proofs.Common.{◌≡◌, ◌∙◌, ℕ, ◌+◌, ◌<◌, ◌≤◌, List, Option, Some, None, add-one, ap, drop, drop-cons, get_or, length, map, nat_eq, option_map, refl, subst, sym, true, false}
use Rattle.std.proofs.lemmas.List.{drop_all}
use Rattle.std.proofs.lemmas.Str.Pattern.{starts_text}
use Rattle.std.specs.List.{starts_with}
use Rattle.std.specs.Option.{MatchOption}
use Rattle.std.specs.Str.{IsCharBoundary}
use Rattle.std.specs.Str.Pattern.{FindsTextPrefix, StripsPrefix}
use denote.Ref.{Bor}
use Rattle.rustsec_osv_rules.specs.schema.VectorScan.{Row, after_each, after_metric, after_optional, after_optionals, after_prefix}

-- what std's `strip_prefix` answers
pub after_from_strip : (p s : List ℕ) (r : Option (Bor (List ℕ)))
    → MatchOption r (FindsTextPrefix p s None) (λ x. StripsPrefix (FindsTextPrefix p) s x.now)
    → option_map (λ t. t.now) r ≡ after_prefix p s
after_from_strip p s None h = rw (sym (starts_text false p s h)) refl
after_from_strip p s (Some x) (n, finds, cut, rest) =
    let e : true ≡ starts_with nat_eq s p = starts_text true p s (n, finds, subst (λ k. IsCharBoundary s k) (sym finds.0) finds.2) in
    rw (sym e) (ap Some (cut ∙ ap (λ k. drop k s) finds.0))

module _ {X : Type 0} (h : X → Row) where
  pub each_more : (rows : List X) (i : ℕ) (d : X) (text rest : List ℕ) → i < length rows → after_metric (h (get_or rows i d)) text ≡ Some rest
      → after_each (map h (drop i rows)) text ≡ after_each (map h (drop (i + 1) rows)) rest
  each_more rows i d text rest l e = rw (add-one, drop-cons rows i d l, e) refl

  pub each_stop : (rows : List X) (i : ℕ) (d : X) (text : List ℕ) → i < length rows → after_metric (h (get_or rows i d)) text ≡ None
      → after_each (map h (drop i rows)) text ≡ None
  each_stop rows i d text l e = rw (drop-cons rows i d l, e) refl

  pub each_end : (rows : List X) (i : ℕ) (text : List ℕ) → length rows ≤ i → after_each (map h (drop i rows)) text ≡ Some text
  each_end rows i text l = rw (drop_all i rows l) refl

  pub optionals_more : (rows : List X) (i : ℕ) (d : X) (text : List ℕ) → i < length rows
      → after_optionals (map h (drop i rows)) text ≡ after_optionals (map h (drop (i + 1) rows)) (after_optional (h (get_or rows i d)) text)
  optionals_more rows i d text l = rw (add-one, drop-cons rows i d l) refl

  pub optionals_end : (rows : List X) (i : ℕ) (text : List ℕ) → length rows ≤ i → after_optionals (map h (drop i rows)) text ≡ text
  optionals_end rows i text l = rw (drop_all i rows l) refl
