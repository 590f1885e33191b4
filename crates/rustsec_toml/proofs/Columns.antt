-- Lines and columns, byte by byte.
use Rattle.std.proofs.Common.{◌≡◌, ◌∙◌, ◌==◌, ◌+◌, ◌-◌, ◌<◌, ◌≤◌, ◌++◌, ℕ, zero, suc, Bool, not, List, [], ◌∷◌, ap, append-nil, append_assoc, arith, cond, count_by, drop, false, get_or, inl, inr, length, length-append, refl, reverse, subst, sym, take, true, IsUtf8, take_all, take_at, add-zero, zero-add}
use Rattle.std.proofs.lemmas.Bool.{cases_lt}
use Rattle.std.proofs.lemmas.List.{reverse-append}
use Rattle.std.proofs.lemmas.List.Sums.{sum_by-append, sum_by-cons, take_while-cons}
use Rattle.std.proofs.lemmas.Str.{IsCharBoundary-at_seam}
use Rattle.std.specs.List.{take_while}
use Rattle.std.specs.Str.{IsCharBoundary}
use Rattle.toml_parser.specs.Lexical.{line_feed}
use Rattle.rustsec_values.specs.Beginnings.{IsBeginning}
use Rattle.rustsec_toml.specs.Places.{beginning, goes_on, last_line, place_past}
use Rattle.rustsec_toml.specs.declared.place.Place.{Place}

pub past-nil : beginning ≡ place_past []
unfolding place_past
past-nil = refl

count-more : (p : ℕ → Bool) (xs : List ℕ) (b : ℕ) → count_by p (xs ++ b ∷ []) ≡ count_by p xs + cond (p b) 1 0
count-more p xs b = sum_by-append (λ x. cond (p x) 1 0) xs (b ∷ []) ∙ ap (λ n. count_by p xs + n) (zero-add (cond (p b) 1 0))

count-first : (p : ℕ → Bool) (b : ℕ) (xs : List ℕ) → count_by p (b ∷ xs) ≡ cond (p b) 1 0 + count_by p xs
count-first p b xs = sum_by-cons (λ x. cond (p x) 1 0) b xs

line-more : (before : List ℕ) (b : ℕ) → last_line (before ++ b ∷ []) ≡ cond (not (b == line_feed)) (b ∷ last_line before) []
line-more before b =
    rw (reverse-append before (b ∷ [])) (take_while-cons (λ c. not (c == line_feed)) b (reverse before))

place-is : (l m c d : ℕ) → l ≡ m → c ≡ d → let p : Place = record { line = l; column = c } in let q : Place = record { line = m; column = d } in p ≡ q
place-is l m c d h k = rw (h, k) refl

-- a line feed ends the line
pub past-feed : (before : List ℕ) (b : ℕ) → b ≡ line_feed → let after : Place = record { line = (place_past before).line + 1; column = 1 } in after ≡ place_past (before ++ b ∷ [])
unfolding place_past
past-feed before b h =
    let lines : count_by (λ c. c == line_feed) (before ++ b ∷ []) ≡ count_by (λ c. c == line_feed) before + 1 = rw h (count-more (λ c. c == line_feed) before line_feed) in
    let last : last_line (before ++ b ∷ []) ≡ [] = rw h (line-more before line_feed) in
    place-is _ _ _ _ (omega (arith, lines)) (ap (λ xs. 1 + count_by (λ c. not (goes_on c)) xs) (sym last))

-- a byte that goes on with a character takes no column
pub past-inside : (before : List ℕ) (b : ℕ) → (b == line_feed) ≡ false → goes_on b ≡ true → place_past before ≡ place_past (before ++ b ∷ [])
unfolding place_past
past-inside before b h k =
    let lines : count_by (λ c. c == line_feed) (before ++ b ∷ []) ≡ count_by (λ c. c == line_feed) before = count-more (λ c. c == line_feed) before b ∙ rw h (add-zero (count_by (λ c. c == line_feed) before)) in
    let last : last_line (before ++ b ∷ []) ≡ b ∷ last_line before = line-more before b ∙ rw h refl in
    let columns : count_by (λ c. not (goes_on c)) (b ∷ last_line before) ≡ count_by (λ c. not (goes_on c)) (last_line before) = count-first (λ c. not (goes_on c)) b (last_line before) ∙ ap (λ v. cond (not v) 1 0 + count_by (λ c. not (goes_on c)) (last_line before)) k ∙ zero-add _ in
    place-is _ _ _ _ (omega (arith, lines)) (ap (λ n. 1 + n) (sym columns) ∙ ap (λ xs. 1 + count_by (λ c. not (goes_on c)) xs) (sym last))

-- the first byte of a character takes a column
pub past-char : (before : List ℕ) (b : ℕ) → (b == line_feed) ≡ false → goes_on b ≡ false
    → let after : Place = record { line = (place_past before).line; column = (place_past before).column + 1 } in after ≡ place_past (before ++ b ∷ [])
unfolding place_past
past-char before b h k =
    let lines : count_by (λ c. c == line_feed) (before ++ b ∷ []) ≡ count_by (λ c. c == line_feed) before = count-more (λ c. c == line_feed) before b ∙ rw h (add-zero (count_by (λ c. c == line_feed) before)) in
    let last : last_line (before ++ b ∷ []) ≡ b ∷ last_line before = line-more before b ∙ rw h refl in
    let columns : count_by (λ c. not (goes_on c)) (b ∷ last_line before) ≡ 1 + count_by (λ c. not (goes_on c)) (last_line before) = count-first (λ c. not (goes_on c)) b (last_line before) ∙ ap (λ v. cond (not v) 1 0 + count_by (λ c. not (goes_on c)) (last_line before)) k in
    place-is _ _ _ _ (omega (arith, lines)) (omega (arith, columns) ∙ ap (λ xs. 1 + count_by (λ c. not (goes_on c)) xs) (sym last))

-- ---- the end of a text

-- the longest beginning before an end is all that comes before it
pub ended : (text before end b : List ℕ) → IsUtf8 end → text ≡ before ++ end → IsBeginning (length text - length end) text b → b ≡ before
ended text before end b utf8 whole (n, low, at, is, most) =
    let len = ap length whole ∙ length-append before end in
    let seam : IsCharBoundary text (length before) = IsCharBoundary-at_seam text before end whole utf8 in
    elim (cases_lt n (length before)) [
      | inl short ↦ absurd (most (length before) short (omega (arith, len)) seam)
      | inr all ↦
          let e : n ≡ length before = omega (arith, len) in
          is ∙ ap (λ k. take k text) e ∙ ap (λ t. take (length before) t) whole ∙ take_at before end (length before) refl
    ]

pub none-before : (most : ℕ) (text b : List ℕ) → most ≡ 0 → IsBeginning most text b → b ≡ []
none-before most text b none (n, low, at, is, above) = is ∙ ap (λ k. take k text) (let e : n ≡ 0 = omega arith in e)
