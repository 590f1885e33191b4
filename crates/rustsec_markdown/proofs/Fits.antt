-- The lines that fit, line by line.
use Rattle.std.proofs.Common.{◌≡◌, ◌∙◌, ◌+◌, ◌-◌, ◌<◌, ◌≤◌, ◌++◌, ℕ, List, [], ◌∷◌, true, false, nat_le, le-leb, refl, sym, ap, append_assoc, append-nil, arith, drop, get_or, length}
use Rattle.std.specs.List.{concat}
use Rattle.std.proofs.lemmas.Bool.{lt-leb}
use Rattle.std.proofs.lemmas.List.{drop_all, drop_more}
use Rattle.rustsec_markdown.specs.MarkdownText.{fitting}

-- ---- the first line

fits : (room : ℕ) (line : List ℕ) (lines : List (List ℕ)) → nat_le (length line) room ≡ true
    → fitting room (line ∷ lines) ≡ line ∷ fitting (room - length line) lines
unfolding fitting
fits room line lines h = rw h refl

too-long : (room : ℕ) (line : List ℕ) (lines : List (List ℕ)) → nat_le (length line) room ≡ false
    → fitting room (line ∷ lines) ≡ fitting room lines
unfolding fitting
too-long room line lines h = rw h refl

none-fits : (room : ℕ) → fitting room [] ≡ []
unfolding fitting
none-fits room = refl

-- ---- the lines from a place on

first-of : (lines : List (List ℕ)) (i : ℕ) (line : List ℕ) → i < length lines → line ≡ get_or lines i line → drop i lines ≡ line ∷ drop (i + 1) lines
first-of lines i line lt at = drop_more lines i line lt ∙ ap (λ l. l ∷ drop (i + 1) lines) (sym at)

pub kept-first : (lines : List (List ℕ)) (i room : ℕ) (line : List ℕ) → i < length lines → line ≡ get_or lines i line → length line ≤ room
    → fitting room (drop i lines) ≡ line ∷ fitting (room - length line) (drop (i + 1) lines)
kept-first lines i room line lt at le =
    ap (fitting room) (first-of lines i line lt at) ∙ fits room line (drop (i + 1) lines) (le-leb (length line) room le)

pub left-first : (lines : List (List ℕ)) (i room : ℕ) (line : List ℕ) → i < length lines → line ≡ get_or lines i line → room < length line
    → fitting room (drop i lines) ≡ fitting room (drop (i + 1) lines)
left-first lines i room line lt at gt =
    ap (fitting room) (first-of lines i line lt at) ∙ too-long room line (drop (i + 1) lines) (lt-leb (length line) room gt)

pub none-left : (lines : List (List ℕ)) (i room : ℕ) → length lines ≤ i → fitting room (drop i lines) ≡ []
none-left lines i room all = ap (fitting room) (drop_all i lines all) ∙ none-fits room

-- ---- what is written of them

pub more-written : (text new line whole : List ℕ) (xs ys : List (List ℕ)) → xs ≡ line ∷ ys → new ≡ text ++ line → text ++ concat xs ≡ whole
    → new ++ concat ys ≡ whole
more-written text new line whole xs ys e k h =
    ap (λ t. t ++ concat ys) k ∙ append_assoc text line (concat ys) ∙ ap (λ ls. text ++ concat ls) (sym e) ∙ h

pub all-written : (text whole : List ℕ) (xs : List (List ℕ)) → xs ≡ [] → text ++ concat xs ≡ whole → text ≡ whole
all-written text whole xs e h = sym (append-nil text) ∙ ap (λ ls. text ++ concat ls) (sym e) ∙ h

pub all-counted : (kept n : ℕ) (xs : List (List ℕ)) → xs ≡ [] → kept + length xs ≡ n → kept ≡ n
all-counted kept n xs e h = omega (arith, ap length e, h)
