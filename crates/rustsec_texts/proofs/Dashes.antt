-- How a text is cut at its dashes.
use Rattle.std.proofs.Common.{◌≡◌, ◌≢◌, ℕ, ◌+◌, ◌-◌, ◌<◌, ◌≤◌, true, false, not, List, [], ◌∷◌, ◌++◌, length, get_or, drop, All, Some, None, refl, sym, ap, ◌∙◌, arith, lit<, subst, count_by, cond, length-drop, get_or-drop}
use Rattle.std.proofs.lemmas.Bool.{eq-eqb, ne_eqb}
use Rattle.std.proofs.lemmas.List.{get_or_default}
use Rattle.std.proofs.lemmas.List.Splits.{length-slice_split, slice_split_at, slice_split_none}
use Rattle.std.proofs.lemmas.List.Sums.{get_or-le-sum_by, suffix_len_is}
use Rattle.std.proofs.lemmas.Str.Pattern.{NoCharPasses-char, drop_at_char}
use Rattle.std.specs.List.{slice_split}
use Rattle.std.specs.Str.{NoCharPasses}
use Rattle.std.specs.Str.Pattern.{HasCharAt}
use Rattle.rustsec_texts.specs.Numbers.{is_dash, last_part, of_three, three_parts}

-- a text with no dash
abbrev pub NoDash : List ℕ → Type 0
NoDash bs = (i : ℕ) → i < length bs → get_or bs i 0 ≢ 45

pub no-dash : (bs : List ℕ) → NoCharPasses is_dash bs → NoDash bs
no-dash bs h i l = NoCharPasses-char 45 bs i h (lit< tt) l

others : (bs : List ℕ) → NoDash bs → All (λ b. is_dash b ≡ false) bs
others bs free k d l = ne_eqb _ 45 (λ e. free k l (get_or_default bs k 0 d l ∙ e))

one : (bs : List ℕ) → NoDash bs → slice_split is_dash bs ≡ bs ∷ []
one bs free = slice_split_none is_dash bs (others bs free)

more : (a bs : List ℕ) → NoDash a → slice_split is_dash (a ++ 45 ∷ bs) ≡ a ∷ slice_split is_dash bs
more a bs free = slice_split_at is_dash a 45 bs (others a free) refl

-- no dash, so one part
pub one-part : (bs : List ℕ) → NoDash bs → three_parts bs ≡ None
one-part bs free = ap of_three (one bs free)

-- one dash, so two parts
pub two-parts : (bs a rest : List ℕ) → bs ≡ a ++ 45 ∷ rest → NoDash a → NoDash rest → three_parts bs ≡ None
two-parts bs a rest e free none = ap three_parts e ∙ ap of_three (more a rest free) ∙ ap (λ ps. of_three (a ∷ ps)) (one rest none)

three : (bs a rest b c : List ℕ) → bs ≡ a ++ 45 ∷ rest → NoDash a → rest ≡ b ++ 45 ∷ c → NoDash b → three_parts bs ≡ of_three (a ∷ b ∷ slice_split is_dash c)
three bs a rest b c e free f then =
    ap three_parts e ∙ ap of_three (more a rest free) ∙ ap (λ r. of_three (a ∷ slice_split is_dash r)) f ∙ ap (λ ps. of_three (a ∷ ps)) (more b c then)

-- two dashes, so three parts
pub three-parts : (bs a rest b c : List ℕ) → bs ≡ a ++ 45 ∷ rest → NoDash a → rest ≡ b ++ 45 ∷ c → NoDash b → NoDash c → three_parts bs ≡ Some (a, b, c)
three-parts bs a rest b c e free f then none = three bs a rest b c e free f then ∙ ap (λ ps. of_three (a ∷ b ∷ ps)) (one c none)

too-many : (a b : List ℕ) (ps : List (List ℕ)) → 2 ≤ length ps → of_three (a ∷ b ∷ ps) ≡ None
too-many a b [] h = absurd (omega (arith, h))
too-many a b (p ∷ []) h = absurd (omega (arith, h))
too-many a b (p ∷ q ∷ ps) h = refl

one-for : (b : ℕ) → b ≡ 45 → 1 ≤ cond (is_dash b) 1 0
one-for b e = subst (λ t. 1 ≤ cond t 1 0) (sym (eq-eqb b 45 e)) (omega arith)

some-dash : (c : List ℕ) (k : ℕ) → k < length c → get_or c k 0 ≡ 45 → 1 ≤ count_by is_dash c
some-dash c k l at = omega (arith, one-for (get_or c k 0) at, get_or-le-sum_by (λ x. cond (is_dash x) 1 0) c k 0 l)

-- more dashes, so more parts
pub more-parts : (bs a rest b c : List ℕ) → bs ≡ a ++ 45 ∷ rest → NoDash a → rest ≡ b ++ 45 ∷ c → NoDash b
    → (k : ℕ) → k < length c → get_or c k 0 ≡ 45 → three_parts bs ≡ None
more-parts bs a rest b c e free f then k l at =
    three bs a rest b c e free f then ∙ too-many a b _ (omega (arith, length-slice_split is_dash c, some-dash c k l at))

-- ---- the last part

no-dash-test : (b : ℕ) → b ≢ 45 → not (is_dash b) ≡ true
no-dash-test b h = ap not (ne_eqb b 45 h)

dash-test : (b : ℕ) → b ≡ 45 → not (is_dash b) ≡ false
dash-test b e = ap not (eq-eqb b 45 e)

-- without a dash, it is the text
pub last-alone : (bs : List ℕ) → NoDash bs → last_part bs ≡ bs
last-alone bs free =
    let s = suffix_len_is (λ b. not (is_dash b)) bs 0 0 (omega arith) (λ k m l. no-dash-test _ (free k l)) (λ l. absurd (omega (arith, l))) in
    ap (λ n. drop n bs) (place _ s)
  where
    place : (n : ℕ) → n ≡ length bs - 0 → length bs - n ≡ 0
    place n e = omega (arith, e)

-- else it is what follows the last dash
pub last-after : (bs : List ℕ) (i j : ℕ) → NoCharPasses is_dash (drop j bs) → HasCharAt 45 bs i j → last_part bs ≡ drop j bs
last-after bs i j free at =
    let here = ap length (drop_at_char 45 bs i j at (lit< tt)) in
    let next : j ≡ i + 1 = at.ends in
    let s = suffix_len_is (λ b. not (is_dash b)) bs j 0 (omega (arith, here, next, length-drop i bs, length-drop j bs))
    (λ k m l. no-dash-test _ (λ e. no-dash (drop j bs) free (k - j) (omega (arith, length-drop j bs)) (get_or-drop j bs (k - j) 0 ∙ ap (λ n. get_or bs n 0) (back k m) ∙ e)))
    (λ l. dash-test _ (ap (λ n. get_or bs n 0) (before next) ∙ at.byte (lit< tt))) in
    ap (λ n. drop n bs) (place _ s (omega (arith, here, next, length-drop i bs, length-drop j bs)))
  where
    back : (k : ℕ) → j ≤ k → j + (k - j) ≡ k
    back k m = omega (arith, m)

    before : j ≡ i + 1 → j - 1 ≡ i
    before e = omega (arith, e)

    place : (n : ℕ) → n ≡ length bs - j → j ≤ length bs → length bs - n ≡ j
    place n e l = omega (arith, e, l)
