-- Splitting a text at each `::`; a path's text and its identifiers determine each other.
use Rattle.std.proofs.Common.{◌≡◌, ◌≢◌, ℕ, zero, suc, ◌<◌, ◌≤◌, ◌==◌, Bool, true, false, ◌&&◌, if◌then◌else◌, List, [], ◌∷◌, ◌++◌, length, take, drop, flat_map, codes, Option, Some, None, refl, sym, ap, ◌∙◌, subst, arith, append-nil, append_assoc, length-drop, true≢false, nat_le}
use Rattle.std.proofs.lemmas.Bool.{and_from, eqb-true, le-leb, leb-true, ne_eqb}
use Rattle.std.specs.Cmp.{first_so, second_so}
use Rattle.std.specs.List.{list_all, onto_first}
use Rattle.std.specs.Str.Pattern.{LacksTextAt}
use Rattle.rustsec_values.specs.Reading.{only_if}
use Rattle.rustsec_texts.specs.Paths.{IsPathOf, between_colons, is_first, is_identifier, is_later, is_path, path_of, path_text}

abbrev colons : List ℕ
colons = codes "::"

-- ---- the first cut

two-colons : (b c : ℕ) (bs : List ℕ) (t : Bool) → ((b == 58) && (c == 58)) ≡ t → LacksTextAt colons (b ∷ c ∷ bs) 0 → t ≡ false
two-colons b c bs false e lacks = refl
two-colons b c bs true e lacks =
    let x = eqb-true b 58 (first_so (b == 58) (c == 58) e) in
    let y = eqb-true c 58 (second_so (b == 58) (c == 58) e) in
    absurd (lacks bs (λ i. x i ∷ y i ∷ bs))

no-cut : (b c : ℕ) (bs : List ℕ) → ((b == 58) && (c == 58)) ≡ false → between_colons (b ∷ c ∷ bs) ≡ onto_first b (between_colons (c ∷ bs))
no-cut b c bs e = ap (λ t. if t then [] ∷ between_colons bs else onto_first b (between_colons (c ∷ bs))) e

pub first-cut : (bs rest : List ℕ) (i : ℕ) → ((k : ℕ) → k < i → LacksTextAt colons bs k) → drop i bs ≡ 58 ∷ 58 ∷ rest
    → between_colons bs ≡ take i bs ∷ between_colons rest
first-cut [] rest i lacks e = absurd (omega (arith, ap length e, length-drop {A = ℕ} i []))
first-cut (b ∷ []) rest zero lacks e = absurd (omega (arith, ap length e))
first-cut (b ∷ []) rest (suc i) lacks e = absurd (omega (arith, ap length e, length-drop {A = ℕ} i []))
first-cut (b ∷ c ∷ bs) rest zero lacks e = ap between_colons e
first-cut (b ∷ c ∷ bs) rest (suc i) lacks e =
    no-cut b c bs (two-colons b c bs _ refl (lacks 0 (omega arith))) ∙ ap (onto_first b) (first-cut (c ∷ bs) rest i (λ k l. lacks (suc k) (omega arith)) e)

pub last-cut : (bs : List ℕ) → ((k : ℕ) → k ≤ length bs → LacksTextAt colons bs k) → between_colons bs ≡ bs ∷ []
last-cut [] lacks = refl
last-cut (b ∷ []) lacks = refl
last-cut (b ∷ c ∷ bs) lacks =
    no-cut b c bs (two-colons b c bs _ refl (lacks 0 (omega arith))) ∙ ap (onto_first b) (last-cut (c ∷ bs) (λ k l. lacks (suc k) (omega arith)))

-- ---- joined again

onto-some : (b : ℕ) (ps : List (List ℕ)) → 0 < length ps → 0 < length (onto_first b ps)
onto-some b [] l = absurd (omega (arith, l))
onto-some b (p ∷ ps) l = omega arith

either-some : (t : Bool) (b : ℕ) (ps qs : List (List ℕ)) → 0 < length qs → 0 < length (if t then [] ∷ ps else onto_first b qs)
either-some true b ps qs l = omega arith
either-some false b ps qs l = onto-some b qs l

some-part : (bs : List ℕ) → 0 < length (between_colons bs)
some-part [] = omega arith
some-part (b ∷ []) = omega arith
some-part (b ∷ c ∷ bs) = either-some ((b == 58) && (c == 58)) b (between_colons bs) (between_colons (c ∷ bs)) (some-part (c ∷ bs))

colons-before : (ps : List (List ℕ)) → 0 < length ps → flat_map (λ (p : List ℕ). codes "::" ++ p) ps ≡ 58 ∷ 58 ∷ path_text ps
colons-before [] l = absurd (omega (arith, l))
colons-before (p ∷ ps) l = refl

onto-text : (b : ℕ) (ps : List (List ℕ)) → 0 < length ps → path_text (onto_first b ps) ≡ b ∷ path_text ps
onto-text b [] l = absurd (omega (arith, l))
onto-text b (p ∷ ps) l = refl

either-text : (t : Bool) (b c : ℕ) (bs : List ℕ) → ((b == 58) && (c == 58)) ≡ t → path_text (between_colons bs) ≡ bs → path_text (between_colons (c ∷ bs)) ≡ c ∷ bs
    → path_text (if t then [] ∷ between_colons bs else onto_first b (between_colons (c ∷ bs))) ≡ b ∷ c ∷ bs
either-text true b c bs e h k =
    let x = eqb-true b 58 (first_so (b == 58) (c == 58) e) in
    let y = eqb-true c 58 (second_so (b == 58) (c == 58) e) in
    colons-before (between_colons bs) (some-part bs) ∙ (λ i. sym x i ∷ sym y i ∷ h i)
either-text false b c bs e h k = onto-text b (between_colons (c ∷ bs)) (some-part (c ∷ bs)) ∙ ap (λ l. b ∷ l) k

pub joined : (bs : List ℕ) → path_text (between_colons bs) ≡ bs
joined [] = refl
joined (b ∷ []) = refl
joined (b ∷ c ∷ bs) = either-text ((b == 58) && (c == 58)) b c bs refl (joined bs) (joined (c ∷ bs))

-- ---- identifiers hold no colon

Colonless : List ℕ → Type 0
Colonless [] = Unit {0}
Colonless (b ∷ bs) = (b ≢ 58) × Colonless bs

later-colonless : (bs : List ℕ) → list_all is_later bs ≡ true → Colonless bs
unfolding Colonless
later-colonless [] h = tt
later-colonless (b ∷ bs) h =
    ((λ e. true≢false (sym (subst (λ x. is_later x ≡ true) e (first_so (is_later b) _ h)))), later-colonless bs (second_so (is_later b) _ h))

identifier-colonless : (bs : List ℕ) → is_identifier bs ≡ true → Colonless bs
unfolding Colonless
identifier-colonless [] h = tt
identifier-colonless (b ∷ bs) h =
    ((λ e. true≢false (sym (subst (λ x. is_first x ≡ true) e (first_so (is_first b) _ h)))), later-colonless bs (second_so (is_first b) _ h))

cut-after_prefix : (x rest : List ℕ) → Colonless x → between_colons (x ++ 58 ∷ 58 ∷ rest) ≡ x ∷ between_colons rest
unfolding Colonless
cut-after_prefix [] rest h = refl
cut-after_prefix (b ∷ []) rest h = no-cut b 58 (58 ∷ rest) (ap (λ t. t && (58 == 58)) (ne_eqb b 58 h.0))
cut-after_prefix (b ∷ c ∷ x) rest h =
    no-cut b c (x ++ 58 ∷ 58 ∷ rest) (ap (λ t. t && (c == 58)) (ne_eqb b 58 h.0)) ∙ ap (onto_first b) (cut-after_prefix (c ∷ x) rest h.1)

uncut : (x : List ℕ) → Colonless x → between_colons x ≡ x ∷ []
unfolding Colonless
uncut [] h = refl
uncut (b ∷ []) h = refl
uncut (b ∷ c ∷ x) h = no-cut b c x (ap (λ t. t && (c == 58)) (ne_eqb b 58 h.0)) ∙ ap (onto_first b) (uncut (c ∷ x) h.1)

cut-again : (x : List ℕ) (xs : List (List ℕ)) → list_all is_identifier (x ∷ xs) ≡ true → between_colons (path_text (x ∷ xs)) ≡ x ∷ xs
cut-again x [] h = ap between_colons (append-nil x) ∙ uncut x (identifier-colonless x (first_so (is_identifier x) _ h))
cut-again x (y ∷ ys) h =
    cut-after_prefix x (path_text (y ∷ ys)) (identifier-colonless x (first_so (is_identifier x) _ h)) ∙ ap (λ l. x ∷ l) (cut-again y ys (second_so (is_identifier x) _ h))

-- ---- the laws of paths

only-yes : {A : Type 0} (b : Bool) (o : Option A) → b ≡ true → only_if b o ≡ o
only-yes true o h = refl
only-yes false o h = cc h

given : {A : Type 0} (b : Bool) (x y : A) → only_if b (Some x) ≡ Some y → (b ≡ true) × (x ≡ y)
given true x y h = (refl, cc h)
given false x y h = cc h

some-path : (ids : List (List ℕ)) → is_path ids ≡ true → between_colons (path_text ids) ≡ ids
some-path [] h = cc h
some-path (x ∷ xs) h = cut-again x xs (second_so (nat_le 2 (length (x ∷ xs))) _ h)

-- what is printed is read as the same path
pub path_of-path_text : (ids : List (List ℕ)) → is_path ids ≡ true → path_of (path_text ids) ≡ Some ids
path_of-path_text ids h =
    let e = some-path ids h in
    ap (λ ps. only_if (is_path ps) (Some ps)) e ∙ only-yes (is_path ids) (Some ids) h

-- the identifiers of a text are a path's
pub is_path-path_of : (text : List ℕ) (ids : List (List ℕ)) → path_of text ≡ Some ids → is_path ids ≡ true
is_path-path_of text ids h =
    let k = given (is_path (between_colons text)) (between_colons text) ids h in
    subst (λ ps. is_path ps ≡ true) k.1 k.0

-- the text is the identifiers joined by `::`
pub path_text-path_of : (text : List ℕ) (ids : List (List ℕ)) → path_of text ≡ Some ids → path_text ids ≡ text
path_text-path_of text ids h = ap path_text (sym (given (is_path (between_colons text)) (between_colons text) ids h).1) ∙ joined text

-- so texts of the same path are equal
pub path_of-injective : (a b : List ℕ) (ids : List (List ℕ)) → path_of a ≡ Some ids → path_of b ≡ Some ids → a ≡ b
path_of-injective a b ids h k = sym (path_text-path_of a ids h) ∙ path_text-path_of b ids k

-- identifiers that are joined to a text are the parts of that text
parts-of-path : (text : List ℕ) (ids : List (List ℕ)) → IsPathOf text ids → between_colons text ≡ ids
parts-of-path text ids h = ap between_colons (sym h.1) ∙ some-path ids h.0

pub short-no-path : (text : List ℕ) → length (between_colons text) < 2 → (ids : List (List ℕ)) → IsPathOf text ids → ⊥
short-no-path text short ids h =
    let two = leb-true 2 (length ids) (first_so (nat_le 2 (length ids)) _ h.0) in
    omega (arith, two, short, ap length (parts-of-path text ids h))

pub bad-no-path : (text : List ℕ) → list_all is_identifier (between_colons text) ≡ false → (ids : List (List ℕ)) → IsPathOf text ids → ⊥
bad-no-path text bad ids h =
    true≢false (sym (second_so (nat_le 2 (length ids)) _ h.0) ∙ ap (list_all is_identifier) (sym (parts-of-path text ids h)) ∙ bad)

pub path-joined : (text : List ℕ) (ids : List (List ℕ)) → ids ≡ between_colons text → 2 ≤ length ids → list_all is_identifier ids ≡ true → IsPathOf text ids
path-joined text ids e two each = (and_from (nat_le 2 (length ids)) _ (le-leb 2 (length ids) two) each, ap path_text e ∙ joined text)

-- ---- steps of the loop that reads a path

pub all-push : (xs : List (List ℕ)) (x : List ℕ) → list_all is_identifier xs ≡ true → is_identifier x ≡ true → list_all is_identifier (xs ++ x ∷ []) ≡ true
all-push [] x h k = and_from (is_identifier x) true k refl
all-push (y ∷ ys) x h k =
    and_from (is_identifier y) _ (first_so (is_identifier y) _ h) (all-push ys x (second_so (is_identifier y) _ h) k)

pub not-all : (xs : List (List ℕ)) (x : List ℕ) (ys : List (List ℕ)) → is_identifier x ≡ false → list_all is_identifier (xs ++ x ∷ ys) ≡ false
not-all [] x ys h = ap (λ t. t && list_all is_identifier ys) h
not-all (y ∷ xs) x ys h = ap (λ t. is_identifier y && t) (not-all xs x ys h) ∙ and-false (is_identifier y)
  where
    and-false : (b : Bool) → (b && false) ≡ false
    and-false true = refl
    and-false false = refl

pub identifier-given : (text id : List ℕ) → only_if (is_identifier text) (Some text) ≡ Some id → (id ≡ text) × (is_identifier text ≡ true)
identifier-given text id h = let k = given (is_identifier text) text id h in (sym k.1, k.0)

pub identifier-refused : (text : List ℕ) → only_if (is_identifier text) (Some text) ≡ None → is_identifier text ≡ false
identifier-refused text h = by (is_identifier text) h
  where
    by : (b : Bool) → only_if b (Some text) ≡ None → b ≡ false
    by true k = cc k
    by false k = refl

-- the loop splits off the first part
pub cut-found : (rest segment after : List ℕ) (i j : ℕ) → ((k : ℕ) → k < i → LacksTextAt colons rest k) → drop i rest ≡ colons ++ drop j rest
    → segment ≡ take i rest → after ≡ drop j rest → between_colons rest ≡ segment ∷ between_colons after
cut-found rest segment after i j lacks e s a = first-cut rest (drop j rest) i lacks e ∙ (λ k. sym s k ∷ between_colons (sym a k))

-- and appends its identifier to the others
pub one-more : (text : List ℕ) (ids : List (List ℕ)) (rest segment : List ℕ) (ps : List (List ℕ)) (id : List ℕ) (more : List (List ℕ))
    → between_colons text ≡ ids ++ between_colons rest → between_colons rest ≡ segment ∷ ps → id ≡ segment → more ≡ ids ++ id ∷ []
    → between_colons text ≡ more ++ ps
one-more text ids rest segment ps id more h k e m =
    h ∙ ap (λ r. ids ++ r) k ∙ sym (append_assoc ids (segment ∷ []) ps) ∙ ap (λ s. (ids ++ s ∷ []) ++ ps) (sym e) ∙ ap (λ l. l ++ ps) (sym m)

pub each-more : (ids : List (List ℕ)) (segment id : List ℕ) (more : List (List ℕ)) → list_all is_identifier ids ≡ true
    → only_if (is_identifier segment) (Some segment) ≡ Some id → more ≡ ids ++ id ∷ [] → list_all is_identifier more ≡ true
each-more ids segment id more h k m =
    let g = identifier-given segment id k in
    subst (λ l. list_all is_identifier l ≡ true) (sym m) (all-push ids id h (subst (λ t. is_identifier t ≡ true) (sym g.0) g.1))

-- a part that is not an identifier refuses the path
pub one-refused : (text : List ℕ) (ids : List (List ℕ)) (rest segment : List ℕ) (ps : List (List ℕ))
    → between_colons text ≡ ids ++ between_colons rest → between_colons rest ≡ segment ∷ ps
    → only_if (is_identifier segment) (Some segment) ≡ None → list_all is_identifier (between_colons text) ≡ false
one-refused text ids rest segment ps h k refused =
    ap (list_all is_identifier) (h ∙ ap (λ r. ids ++ r) k) ∙ not-all ids segment ps (identifier-refused segment refused)
