-- How the text of a source is cut for entries.
use Rattle.std.proofs.Common.{◌≡◌, ◌≢◌, ◌∙◌, ◌+◌, ◌-◌, ◌<◌, ◌≤◌, ◌++◌, ℕ, Bool, false, not, if◌then◌else◌, List, length, get_or, drop, take, length-drop, get_or-drop, arith, lit<, refl, sym, ap, ⊎_elim}
use Rattle.std.specs.Prelude.{nat_eq}
use Rattle.std.specs.List.{before_last, ends_with, list_any}
use Rattle.std.specs.Str.{NoCharPasses}
use Rattle.std.specs.Str.Pattern.{FindsTextSuffix, HasCharAt, StripsSuffix}
use Rattle.std.proofs.lemmas.Bool.{cases_Bool, eq-eqb, ne_eqb}
use Rattle.std.proofs.lemmas.Bool.Decides.{Decides-eqb}
use Rattle.std.proofs.lemmas.List.{get_or_default}
use Rattle.std.proofs.lemmas.List.Folds.{list_any_at, list_any_none}
use Rattle.std.proofs.lemmas.List.Sums.{suffix_len_is}
use Rattle.std.proofs.lemmas.Slice.Eq.{ends_is}
use Rattle.std.proofs.lemmas.Str.Pattern.{NoCharPasses-char, drop_at_char}
use Rattle.rustsec_graph.specs.Candidates.{is_number_sign, master, without_master, without_precise}

-- ---- the precise part

no-sign : (bs : List ℕ) → NoCharPasses is_number_sign bs → (k : ℕ) → k < length bs → get_or bs k 0 ≢ 35
no-sign bs free k l = NoCharPasses-char 35 bs k free (lit< tt) l

none-there : (bs : List ℕ) → NoCharPasses is_number_sign bs → list_any is_number_sign bs ≡ false
none-there bs free = list_any_none is_number_sign bs (λ k d l. ne_eqb _ 35 (λ e. no-sign bs free k l (get_or_default bs k 0 d l ∙ e)))

-- without a number sign, the text stays
pub whole : (bs : List ℕ) → NoCharPasses is_number_sign bs → without_precise bs ≡ bs
whole bs free = ap (λ b. if b then before_last is_number_sign bs else bs) (none-there bs free)

-- else it is what is before the last one
pub before-sign : (bs : List ℕ) (i j : ℕ) → NoCharPasses is_number_sign (drop j bs) → HasCharAt 35 bs i j → without_precise bs ≡ take i bs
before-sign bs i j free at =
    let here = ap length (drop_at_char 35 bs i j at (lit< tt)) in
    let next : j ≡ i + 1 = at.ends in
    let inside : j ≤ length bs = omega (arith, here, next, length-drop i bs, length-drop j bs) in
    let after = suffix_len_is (λ b. not (is_number_sign b)) bs j 0 inside
    (λ k m l. ap not (ne_eqb _ 35 (λ e. no-sign (drop j bs) free (k - j) (omega (arith, length-drop j bs)) (get_or-drop j bs (k - j) 0 ∙ ap (λ n. get_or bs n 0) (back k m) ∙ e))))
    (λ l. ap not (eq-eqb _ 35 (ap (λ n. get_or bs n 0) (back-one next) ∙ at.byte (lit< tt)))) in
    ap (λ b. if b then before_last is_number_sign bs else bs) (list_any_at is_number_sign bs i 0 (omega (arith, next, inside)) (eq-eqb _ 35 (at.byte (lit< tt))))
    ∙ ap (λ n. take n bs) (place _ after inside next)
  where
    back : (k : ℕ) → j ≤ k → j + (k - j) ≡ k
    back k m = omega (arith, m)

    back-one : j ≡ i + 1 → j - 1 ≡ i
    back-one e = omega (arith, e)

    place : (n : ℕ) → n ≡ length bs - j → j ≤ length bs → j ≡ i + 1 → length bs - n - 1 ≡ i
    place n e l next = omega (arith, e, l, next)

-- ---- the branch `master`

abbrev cut-if : List ℕ → Bool → List ℕ
cut-if bs b = if b then take (length bs - length master) bs else bs

-- with that ending, it is the text before it
pub before-master : (bs x : List ℕ) → StripsSuffix (FindsTextSuffix master) bs x → without_master bs ≡ x
before-master bs x h =
    ap (cut-if bs) ((ends_is Decides-eqb bs master _ refl).1 _ h.1.1) ∙ ap (λ n. take (length bs - n) bs) (sym h.1.0) ∙ sym h.2

-- else it stays
pub no-master : (bs : List ℕ) → ((front : List ℕ) → bs ≢ front ++ master) → without_master bs ≡ bs
no-master bs h =
    ⊎_elim (λ e. absurd (h _ ((ends_is Decides-eqb bs master _ refl).0 e))) (λ e. ap (cut-if bs) e) (cases_Bool (ends_with nat_eq bs master))
