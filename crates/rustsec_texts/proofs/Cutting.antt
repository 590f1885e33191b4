-- The places at which a text is cut by a pattern.
use Rattle.std.proofs.Common.{◌≡◌, ◌≢◌, ◌+◌, MatchOption, Bor, ℕ, zero, suc, ◌==◌, append_assoc, get_or, get_or-drop, length-append, sym, ◌<◌, ◌≤◌, Bool, true, false, if◌then◌else◌, List, [], ◌∷◌, ◌++◌, length, take, drop, Option, Some, None, option_map, refl, ap, subst, ◌∙◌, arith, eq-eqb}
use Rattle.std.proofs.Math.Seq.{drop-append_seam, take-append_seam}
use Rattle.std.specs.Option.{option_or}
use Rattle.std.proofs.lemmas.Bool.{eqb-true}
use Rattle.std.proofs.lemmas.List.{get_or_append_left}
use Rattle.std.specs.Str.Pattern.{FindsText, FindsTextPrefix, LacksTextAt, SplitsAroundMatch, StripsPrefix}
use Rattle.rustsec_texts.specs.PatternCuts.{IsFirstCut, after_prefix, cut_at}

none-of : {A : Type 0} (o : Option A) → ((x : A) → o ≡ Some x → ⊥) → o ≡ None
none-of None f = refl
none-of (Some x) f = absurd (f x refl)

some-inj : {A : Type 0} (a b : A) → Some a ≡ Some b → a ≡ b
some-inj a b h = cc h

-- ---- a text that begins with a pattern

pub after_prefix-append : (p rest : List ℕ) → after_prefix p (p ++ rest) ≡ Some rest
unfolding after_prefix
after_prefix-append [] rest = refl
after_prefix-append (b ∷ p) rest = rw (eq-eqb b b refl) (after_prefix-append p rest)

pub after_prefix-from : (p text rest : List ℕ) → text ≡ p ++ rest → after_prefix p text ≡ Some rest
after_prefix-from p text rest e = rw e (after_prefix-append p rest)

same-first : (t : Bool) (b c : ℕ) (p cs rest : List ℕ) (o : Option (List ℕ)) → (t ≡ true → b ≡ c) → (o ≡ Some rest → cs ≡ p ++ rest)
    → (if t then o else None) ≡ Some rest → c ∷ cs ≡ b ∷ (p ++ rest)
same-first true b c p cs rest o e f h = cc (e refl, f h)
same-first false b c p cs rest o e f h = cc h

pub after_prefix-is : (p text rest : List ℕ) → after_prefix p text ≡ Some rest → text ≡ p ++ rest
unfolding after_prefix
after_prefix-is [] text rest h = cc h
after_prefix-is (b ∷ p) [] rest h = cc h
after_prefix-is (b ∷ p) (c ∷ cs) rest h = same-first (b == c) b c p cs rest (after_prefix p cs) (λ e. eqb-true b c e) (after_prefix-is p cs rest) h

pub after_prefix-none : (p text : List ℕ) → LacksTextAt p text 0 → after_prefix p text ≡ None
after_prefix-none p text lacks = none-of (after_prefix p text) (λ rest h. lacks rest (after_prefix-is p text rest h))

-- ---- a text that is cut at a pattern

pub cut_at-none : (p text : List ℕ) → ((i : ℕ) → i ≤ length text → LacksTextAt p text i) → cut_at p text ≡ None
unfolding cut_at
cut_at-none p [] lacks = rw (after_prefix-none p [] (lacks 0 (omega arith))) refl
cut_at-none p (b ∷ bs) lacks =
    rw (after_prefix-none p (b ∷ bs) (lacks 0 (omega arith)), cut_at-none p bs (λ i l. lacks (suc i) (omega arith))) refl

pub cut_at-first : (p text rest : List ℕ) (i : ℕ) → ((k : ℕ) → k < i → LacksTextAt p text k) → drop i text ≡ p ++ rest
    → cut_at p text ≡ Some (take i text, rest)
unfolding cut_at
cut_at-first p [] rest zero lacks e = rw (after_prefix-from p [] rest e) refl
cut_at-first p (b ∷ bs) rest zero lacks e = rw (after_prefix-from p (b ∷ bs) rest e) refl
cut_at-first p [] rest (suc i) lacks e = absurd (lacks 0 (omega arith) rest e)
cut_at-first p (b ∷ bs) rest (suc i) lacks e =
    rw (after_prefix-none p (b ∷ bs) (lacks 0 (omega arith)), cut_at-first p bs rest i (λ k l. lacks (suc k) (omega arith)) e) refl

-- ---- what std's `strip_prefix` and `split_once` answer

pub after_prefix-strips : (p s : List ℕ) (r : Option (Bor (List ℕ))) → MatchOption r (FindsTextPrefix p s None) (λ x. StripsPrefix (FindsTextPrefix p) s x.now)
    → MatchOption r (after_prefix p s ≡ None) (λ x. after_prefix p s ≡ Some x.now)
after_prefix-strips p s None h = after_prefix-none p s h
after_prefix-strips p s (Some x) h = rw h.2 (after_prefix-from p s (drop h.0 s) h.1.1)

pub cut_at-splits : (p s : List ℕ) (r : Option (Bor (List ℕ) × Bor (List ℕ)))
    → MatchOption r (FindsText p s None) (λ x. SplitsAroundMatch (FindsText p) s x.0.now x.1.now)
    → MatchOption r (cut_at p s ≡ None) (λ x. cut_at p s ≡ Some (x.0.now, x.1.now))
cut_at-splits p s None h = cut_at-none p s h
cut_at-splits p s (Some x) h = rw (h.3, h.4) (cut_at-first p s (drop h.1 s) h.0 h.2.0 h.2.1.split)

-- ---- a text is cut where `IsFirstCut` says, and nowhere else

cuts-here : (p text : List ℕ) (o : Option (List ℕ)) (c : List ℕ × List ℕ) → ((rest : List ℕ) → o ≡ Some rest → text ≡ p ++ rest)
    → option_map (λ rest. ([], rest)) o ≡ Some c → IsFirstCut p text c.0 c.1
cuts-here p text None c f h = cc h
cuts-here p text (Some rest) c f h =
    subst (λ (d : List ℕ × List ℕ). IsFirstCut p text d.0 d.1) (some-inj ([], rest) c h)
    (record { whole = f rest refl; first = λ i l. absurd (omega arith) })

first-later : (p bs before after : List ℕ) (b : ℕ) → after_prefix p (b ∷ bs) ≡ None → IsFirstCut p bs before after
    → (i : ℕ) → i < length (b ∷ before) → LacksTextAt p (b ∷ bs) i
first-later p bs before after b none cut zero l rest e = cc (none, after_prefix-from p (b ∷ bs) rest e)
first-later p bs before after b none cut (suc i) l rest e = cut.first i (omega arith) rest e

cuts-later : (p bs : List ℕ) (b : ℕ) (o : Option (List ℕ)) (later : Option (List ℕ × List ℕ)) (c : List ℕ × List ℕ) → after_prefix p (b ∷ bs) ≡ o
    → ((d : List ℕ × List ℕ) → later ≡ Some d → IsFirstCut p bs d.0 d.1)
    → option_or (option_map (λ rest. ([], rest)) o) (option_map (λ (d : List ℕ × List ℕ). (b ∷ d.0, d.1)) later) ≡ Some c
    → IsFirstCut p (b ∷ bs) c.0 c.1
cuts-later p bs b (Some rest) later c e f h = cuts-here p (b ∷ bs) (Some rest) c (λ r k. after_prefix-is p (b ∷ bs) r (e ∙ k)) h
cuts-later p bs b None None c e f h = cc h
cuts-later p bs b None (Some d) c e f h =
    let cut = f d refl in
    subst (λ (d : List ℕ × List ℕ). IsFirstCut p (b ∷ bs) d.0 d.1) (some-inj (b ∷ d.0, d.1) c h)
    (record { whole = ap (λ xs. b ∷ xs) cut.whole; first = first-later p bs d.0 d.1 b e cut })

pub cut_at-is : (p text : List ℕ) (c : List ℕ × List ℕ) → cut_at p text ≡ Some c → IsFirstCut p text c.0 c.1
unfolding cut_at
cut_at-is p [] c h = cuts-here p [] (after_prefix p []) c (after_prefix-is p []) h
cut_at-is p (b ∷ bs) c h = cuts-later p bs b (after_prefix p (b ∷ bs)) (cut_at p bs) c refl (cut_at-is p bs) h

pub cut_at-from : (p text before after : List ℕ) → IsFirstCut p text before after → cut_at p text ≡ Some (before, after)
cut_at-from p text before after cut =
    let found : cut_at p text ≡ Some (take (length before) text, after) =
    cut_at-first p text after (length before) cut.first (ap (drop (length before)) cut.whole ∙ drop-append_seam before (p ++ after)) in
    let front : take (length before) text ≡ before = ap (take (length before)) cut.whole ∙ take-append_seam before (p ++ after) in
    found ∙ ap (λ (xs : List ℕ). Some (xs, after)) front

-- a text is cut at the line that its first backquote begins
pub cut_at-backquote : (text before after front rest : List ℕ) → text ≡ before ++ (96 ∷ after) → ((i : ℕ) → i < length before → get_or before i 0 ≢ 96)
    → before ≡ front ++ (10 ∷ []) → after ≡ 96 ∷ 96 ∷ rest → cut_at (10 ∷ 96 ∷ 96 ∷ 96 ∷ []) text ≡ Some (front, rest)
cut_at-backquote text before after front rest whole none line more =
    cut_at-from (10 ∷ 96 ∷ 96 ∷ 96 ∷ []) text front rest (record {
      whole = rw (whole, line, more) (append_assoc front (10 ∷ []) (96 ∷ 96 ∷ 96 ∷ rest));
      first = λ i low later occurs.
          let long : length before ≡ length front + 1 = rw line (length-append front (10 ∷ [])) in
          let within : i + 1 < length before = omega arith in
          let here : get_or text (i + 1) 0 ≡ 96 = sym (get_or-drop i text 1 0) ∙ ap (λ xs. get_or xs 1 0) occurs in
          none (i + 1) within (sym (get_or_append_left before (96 ∷ after) 0 (i + 1) within) ∙ (ap (λ xs. get_or xs (i + 1) 0) (sym whole) ∙ here));
    })
