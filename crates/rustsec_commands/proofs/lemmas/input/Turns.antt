-- A loop over the lines of an input, and the requirements and versions of the lines so far.
use Rattle.std.proofs.Common.{◌≡◌, ◌==◌, ℕ, ◌+◌, ◌<◌, ◌≤◌, true, false, List, [], ◌∷◌, ◌++◌, Option, Some, None, length, take, get_or, refl, sym, ap, ◌∙◌, append-nil, arith, below_more}
use Rattle.std.specs.Prelude.{is_none, nat_lt}
use Rattle.std.specs.List.{enumerate_from, position_or_len}
use Rattle.std.proofs.lemmas.Bool.Decides.{nat_tests}
use Rattle.std.proofs.lemmas.List.{get_or-map, take_more}
use Rattle.std.proofs.lemmas.List.Elements.{filter_map-append}
use Rattle.std.proofs.lemmas.List.Sums.{count_by-le-length, position_or_len_is}
use Rattle.std.proofs.Math.ListN.{length-map}
use Rattle.std.proofs.lemmas.List.FromFn.{get_or-enumerate_from, length-enumerate_from}
use Rattle.std.proofs.lemmas.List.Splits.{length-slice_split}
use Rattle.rustsec_commands.specs.input.Input.{first_malformed, input_of, patched_in, says, unaffected_in, version_in}
use Rattle.rustsec_commands.specs.input.Line.{Line, blank, line_says, lines_of, patched, said_for, unaffected, version}
use Rattle.rustsec_commands.specs.input.Views.{with_line}
use Rattle.rustsec_commands.specs.declared.input.InputKind.{InputKind}

-- ---- the first malformed line

-- no line before a place is malformed
abbrev pub NoneBefore : List (Option Line) → ℕ → Type 0
NoneBefore lines i = (k : ℕ) → k < i → is_none (get_or lines k None) ≡ false

pub malformed-here : (lines : List (Option Line)) (i : ℕ) → i < length lines → NoneBefore lines i → get_or lines i None ≡ None → first_malformed lines ≡ Some i
malformed-here lines i lt before at =
    let e : position_or_len is_none lines ≡ i = position_or_len_is is_none lines i None (omega arith) before (λ h. rw at refl) in
    let low : nat_lt i (length lines) ≡ true = grind (arith, nat_tests) in
    rw (e, low) refl

pub malformed-nowhere : (lines : List (Option Line)) (i : ℕ) → length lines ≤ i → NoneBefore lines i → first_malformed lines ≡ None
malformed-nowhere lines i all before =
    let e : position_or_len is_none lines ≡ length lines = position_or_len_is is_none lines (length lines) None (omega arith) (λ k h. before k (omega arith)) (λ h. absurd (omega arith)) in
    let high : nat_lt (length lines) (length lines) ≡ false = grind (arith, nat_tests) in
    rw (e, high) refl

some-there : (o : Option Line) (l : Line) → o ≡ Some l → is_none o ≡ false
some-there o l h = rw h refl

pub none-more : (lines : List (Option Line)) (i : ℕ) (l : Line) → NoneBefore lines i → get_or lines i None ≡ Some l → NoneBefore lines (i + 1)
none-more lines i l before at = below_more _ i before (some-there (get_or lines i None) l at)

-- ---- the requirements and versions of the lines

input-push : (lines : List (Option Line)) (l : Line) → input_of (lines ++ Some l ∷ []) ≡ with_line (input_of lines) l
input-push lines blank = rw (filter_map-append patched_in, filter_map-append unaffected_in, filter_map-append version_in) (simp append-nil)
input-push lines (patched r) = rw (filter_map-append patched_in, filter_map-append unaffected_in, filter_map-append version_in) (simp append-nil)
input-push lines (unaffected r) = rw (filter_map-append patched_in, filter_map-append unaffected_in, filter_map-append version_in) (simp append-nil)
input-push lines (version v) = rw (filter_map-append patched_in, filter_map-append unaffected_in, filter_map-append version_in) (simp append-nil)

pub input-more : (lines : List (Option Line)) (i : ℕ) (l : Line) → i < length lines → get_or lines i None ≡ Some l
    → input_of (take (i + 1) lines) ≡ with_line (input_of (take i lines)) l
input-more lines i l lt at = rw (take_more lines i None lt, at) (input-push (take i lines) l)

-- ---- the lines of an input, one after the other

pair-first : (a b : ℕ) (x y : List ℕ) → ◌≡◌ {A = ℕ × List ℕ} (a, x) (b, y) → a ≡ b
pair-first a b x y e = ap (λ (p : ℕ × List ℕ). p.0) e

pair-second : (a b : ℕ) (x y : List ℕ) → ◌≡◌ {A = ℕ × List ℕ} (a, x) (b, y) → x ≡ y
pair-second a b x y e = ap (λ (p : ℕ × List ℕ). p.1) e

module _ (kind : InputKind) (input : List ℕ) where
  -- the line at the place i
  pub next-line : (i n : ℕ) (line : List ℕ) (o : Option Line) → i < length (enumerate_from 0 (lines_of input))
      → ◌≡◌ {A = ℕ × List ℕ} (n, line) (get_or (enumerate_from 0 (lines_of input)) i (n, line)) → o ≡ said_for kind (line_says line)
      → (n ≡ i) × ((i < length (says kind input)) × (get_or (says kind input) i None ≡ o))
  next-line i n line o low at says-so =
      let lines = lines_of input in
      let says-line = λ (l : List ℕ). said_for kind (line_says l) in
      let here : i < length lines = rw (← length-enumerate_from 0 lines) low in
      let is = at ∙ get_or-enumerate_from 0 lines i (n, line) here in
      let same : line ≡ get_or lines i line = pair-second n (0 + i) line (get_or lines i line) is in (
        pair-first n (0 + i) line (get_or lines i line) is ∙ (let zero-more : 0 + i ≡ i = omega arith in zero-more),
        (
          (rw (length-map lines says-line) here),
          get_or-map says-line lines i line None here ∙ sym (ap says-line same) ∙ sym says-so,
        ),
      )

  -- after the last line, no line is left
  pub no-line : (i : ℕ) → i ≡ length (enumerate_from 0 (lines_of input)) → length (says kind input) ≤ i
  no-line i e = omega (arith, e, length-enumerate_from 0 (lines_of input), length-map (lines_of input) (λ l. said_for kind (line_says l)))

  -- there is at most one line more than there are bytes
  pub few-lines : (i : ℕ) → i < length (enumerate_from 0 (lines_of input)) → i ≤ length input
  few-lines i low =
      omega (arith, low, length-enumerate_from 0 (lines_of input), length-slice_split (λ b. b == 10) input, count_by-le-length (λ b. b == 10) input)
