-- Postings of lists of advisories.
use Rattle.std.proofs.Common.{◌≡◌, ◌∙◌, ◌+◌, ◌%◌, ◌<◌, ◌++◌, ◌==◌, ℕ, Bool, true, false, cond, List, [], ◌∷◌, Option, None, Some, get_or, length, map, nat_eq, take, refl, subst, sym, ap, append_assoc, arith, length-append}
use Rattle.std.specs.Prelude.{slice_get, slice_index_or}
use Rattle.std.specs.Cmp.Lexicographic.{bytes_decides, pointwise}
use Rattle.std.specs.List.{All, filter}
use Rattle.std.proofs.lemmas.Bool.{and_from}
use Rattle.std.proofs.lemmas.Bool.Decides.{nat_tests}
use Rattle.std.proofs.lemmas.List.{get_or-map, length-map, length-take-le, take_more}
use Rattle.std.proofs.lemmas.List.Elements.{All-cons}
use Rattle.std.proofs.lemmas.Nat.{mod_below}
use Rattle.semver.specs.Parse.{Parts}
use Rattle.rustsec_versions.specs.acceptance.Lists.{affected}
use Rattle.rustsec_versions.specs.ranges.Ranges.{Range, in_range}
use Rattle.rustsec_advisory.specs.declared.advisory.Advisory.{Advisory}
use Rattle.rustsec_database.specs.Selects.{if_there}
use Rattle.rustsec_database.specs.Places.{at_places, places_from}
use Rattle.rustsec_database.specs.Postings.{AreListed, HaveListed, IsIndexOf, IsPostingAmong, digest, is_listed, is_near, posting_of, postings_from}
use Rattle.rustsec_database.specs.Spans.{span_of}
use Rattle.rustsec_database.proofs.Places.{got-last, narrow, taken}
use Rattle.rustsec_database.proofs.Spans.{in-span}

abbrev Posting : Type 0
Posting = ℕ × ℕ × Range

itself : (n : ℕ) → (n == n) ≡ true
itself n = grind (arith, nat_tests)

-- ---- one advisory more

step : (b : Bool) (p : Posting) (us vs ws : List Posting) → us ≡ vs ++ ws → cond b (p ∷ us) us ≡ cond b (p ∷ vs) vs ++ ws
step true p us vs ws h = ap (λ xs. p ∷ xs) h
step false p us vs ws h = h

same : (b : Bool) (p : Posting) (us vs : List Posting) → us ≡ vs → cond b (p ∷ us) us ≡ cond b (p ∷ vs) vs
same true p us vs h = ap (λ xs. p ∷ xs) h
same false p us vs h = h

postings-in : (test : Advisory → Bool) (i : ℕ) (xs : List Advisory) (x : Advisory) → test x ≡ true
    → postings_from test i (xs ++ x ∷ []) ≡ postings_from test i xs ++ posting_of (i + length xs) x ∷ []
postings-in test i [] x holds = rw holds (ap (λ (n : ℕ). posting_of n x ∷ []) (omega arith))
postings-in test i (y ∷ ys) x holds =
    let here : i + 1 + length ys ≡ i + length (y ∷ ys) = omega arith in
    step (test y) (posting_of i y) _ _ _
    (postings-in test (i + 1) ys x holds ∙ ap (λ (n : ℕ). postings_from test (i + 1) ys ++ posting_of n x ∷ []) here)

postings-out : (test : Advisory → Bool) (i : ℕ) (xs : List Advisory) (x : Advisory) → test x ≡ false
    → postings_from test i (xs ++ x ∷ []) ≡ postings_from test i xs
postings-out test i [] x fails = rw fails refl
postings-out test i (y ∷ ys) x fails = same (test y) (posting_of i y) _ _ (postings-out test (i + 1) ys x fails)

one-list : (before : List Advisory) (a : Advisory) (slot count place : ℕ) (xs : List Posting) (b : Bool) → (digest a.metadata.«package» % count == place) ≡ b
    → slot ≡ length before → xs ≡ postings_from (is_listed count place) 0 before
    → cond b (xs ++ posting_of slot a ∷ []) xs ≡ postings_from (is_listed count place) 0 (before ++ a ∷ [])
one-list before a slot count place xs true is at have =
    let turn : slot ≡ 0 + length before = omega (arith, at) in
    (λ i. have i ++ posting_of (turn i) a ∷ []) ∙ sym (postings-in (is_listed count place) 0 before a is)
one-list before a slot count place xs false is at have = have ∙ sym (postings-out (is_listed count place) 0 before a is)

-- lists after the posting of an advisory is in its list
inserted : (before : List Advisory) (a : Advisory) (slot : ℕ) (p : Posting) (old new : List (List Posting)) → p ≡ posting_of slot a
    → length new ≡ length old
    → ((place : ℕ) → place < length old → slice_index_or new place []
    ≡ cond (p.0 % length old == place) (slice_index_or old place [] ++ p ∷ []) (slice_index_or old place []))
    → slot ≡ length before → HaveListed before old → HaveListed (before ++ a ∷ []) new
inserted before a slot p old new is len put at have place l =
    let within : place < length old = omega (arith, len, l) in
    let xs = slice_index_or old place [] in
    put place within
    ∙ (ap (λ (q : Posting). cond (q.0 % length old == place) (xs ++ q ∷ []) xs) is
    ∙ (one-list before a slot (length old) place xs (digest a.metadata.«package» % length old == place) refl at (have place within)
    ∙ ap (λ n. postings_from (is_listed n place) 0 (before ++ a ∷ [])) (sym len)))

-- the lists of the first advisories, with one more
pub listed-more : (all : List Advisory) (i : ℕ) (a : Advisory) (slot : ℕ) (p : Posting) (old new : List (List Posting)) → i < length all
    → a ≡ get_or all i a → slot ≡ i → p ≡ posting_of slot a → length new ≡ length old
    → ((place : ℕ) → place < length old → slice_index_or new place []
    ≡ cond (p.0 % length old == place) (slice_index_or old place [] ++ p ∷ []) (slice_index_or old place []))
    → HaveListed (take i all) old → HaveListed (take (i + 1) all) new
listed-more all i a slot p old new l is at of len put have =
    let below : slot ≡ length (take i all) = at ∙ sym (length-take-le i all (omega (arith, l))) in
    subst (λ (b : List Advisory). HaveListed b new) (ap (λ x. take i all ++ x ∷ []) is ∙ sym (take_more all i a l))
    (inserted (take i all) a slot p old new of len put below have)

-- ---- the places of postings

places-step : (b : Bool) (p : Posting) (ps : List Posting) (ns : List ℕ) → map (λ (q : Posting). q.1) ps ≡ ns
    → map (λ (q : Posting). q.1) (cond b (p ∷ ps) ps) ≡ cond b (p.1 ∷ ns) ns
places-step true p ps ns h = ap (λ xs. p.1 ∷ xs) h
places-step false p ps ns h = h

places-are : (test : Advisory → Bool) (i : ℕ) (xs : List Advisory) → map (λ (q : Posting). q.1) (postings_from test i xs) ≡ places_from test i xs
places-are test i [] = refl
places-are test i (x ∷ xs) = places-step (test x) (posting_of i x) _ _ (places-are test (i + 1) xs)

pub place-within : (ps : List Posting) (i : ℕ) → i < length ps → i < length (map (λ (q : Posting). q.1) ps)
place-within ps i l = let len = length-map ps (λ (q : Posting). q.1) in omega (arith, l, len)

pub place-at : (ps : List Posting) (i : ℕ) (p : Posting) → i < length ps → p ≡ get_or ps i p → p.1 ≡ get_or (map (λ (q : Posting). q.1) ps) i p.1
place-at ps i p l is = ap (λ (q : Posting). q.1) is ∙ sym (get_or-map (λ (q : Posting). q.1) ps i p p.1 l)

-- ---- each posting is that of the advisory at its place

all-step : (P : Posting → Type 0) (b : Bool) (p : Posting) (ps : List Posting) → P p → All P ps → All P (cond b (p ∷ ps) ps)
all-step P true p ps h k = All-cons P p ps h k
all-step P false p ps h k = k

there : (ys : List Advisory) (n : ℕ) (x : Advisory) → slice_get ys n ≡ Some x → IsPostingAmong ys (posting_of n x)
there ys n x at a is = let same : a ≡ x = cc (is ∙ at) in ap (posting_of n) (sym same)

among-from : (test : Advisory → Bool) (zs xs ys : List Advisory) (n : ℕ) → ys ≡ zs ++ xs → n ≡ length zs → All (IsPostingAmong ys) (postings_from test n xs)
among-from test zs [] ys n is len = λ k d l. absurd (omega (arith, l))
among-from test zs (x ∷ xs) ys n is len =
    let at : slice_get ys n ≡ Some x = (λ i. slice_get (is i) (len i)) ∙ got-last zs x xs in
    let longer : n + 1 ≡ length (zs ++ x ∷ []) = omega (arith, len, length-append zs (x ∷ [])) in
    all-step (IsPostingAmong ys) (test x) (posting_of n x) _ (there ys n x at)
    (among-from test (zs ++ x ∷ []) xs ys (n + 1) (is ∙ sym (append_assoc zs (x ∷ []) xs)) longer)

pub among : (number : ℕ) (advisories : List Advisory) (postings : List Posting) → AreListed number advisories postings
    → All (IsPostingAmong advisories) postings
among number advisories postings are =
    subst (λ ps. All (IsPostingAmong advisories) ps) (sym are.1)
    (among-from (is_listed are.0 (number % are.0)) [] advisories advisories 0 refl refl)

-- ---- what is found by a digest

-- the list for a digest
pub listed-at : (number : ℕ) (advisories : List Advisory) (lists : List (List Posting)) (postings : List Posting)
    → postings ≡ slice_index_or lists (number % length lists) [] → IsIndexOf advisories lists → AreListed number advisories postings
listed-at number advisories lists postings is index = (length lists, is ∙ index.1 (number % length lists) (mod_below number (length lists) index.0))

-- a name that is that of an advisory has its digest
same-digest : (name : List ℕ) (a : Advisory) → pointwise nat_eq name a.metadata.«package» ≡ true → digest a.metadata.«package» ≡ digest name
same-digest name a h = ap digest (sym ((bytes_decides name a.metadata.«package»).0 h))

-- the postings of a digest are enough for a test that only advisories of the name pass
pub by-digest : (test : Advisory → Bool) (name : List ℕ) (advisories : List Advisory) (postings : List Posting)
    → ((a : Advisory) → test a ≡ true → pointwise nat_eq name a.metadata.«package» ≡ true) → AreListed (digest name) advisories postings
    → filter test (at_places (map (λ (q : Posting). q.1) postings) advisories) ≡ filter test advisories
by-digest test name advisories postings named are =
    let p = is_listed are.0 (digest name % are.0) in
    ap (λ ps. filter test (at_places (map (λ (q : Posting). q.1) ps) advisories)) are.1
    ∙ (ap (λ ns. filter test (at_places ns advisories)) (places-are p 0 advisories)
    ∙ (ap (filter test) (taken p advisories)
    ∙ narrow p test (λ a h. ap (λ n. n % are.0 == digest name % are.0) (same-digest name a (named a h)) ∙ itself (digest name % are.0)) advisories))

in-version : (version : Option Parts) (a : Advisory) → if_there (affected a.versions) version ≡ true
    → if_there (λ v. in_range (span_of a.versions) v) version ≡ true
in-version None a h = refl
in-version (Some v) a h = in-span a.versions v h

-- an advisory of the name that affects the version is near
near : (name : List ℕ) (version : Option Parts) (place : ℕ) (a : Advisory) → pointwise nat_eq name a.metadata.«package» ≡ true
    → if_there (affected a.versions) version ≡ true → is_near (digest name) version (posting_of place a) ≡ true
near name version place a named h =
    and_from _ _ (ap (λ n. n == digest name) (same-digest name a named) ∙ itself (digest name)) (in-version version a h)

pub near-by : (number : ℕ) (name : List ℕ) (version : Option Parts) (place : ℕ) (p : Posting) (a : Advisory) → number ≡ digest name
    → p ≡ posting_of place a → pointwise nat_eq name a.metadata.«package» ≡ true → if_there (affected a.versions) version ≡ true
    → is_near number version p ≡ true
near-by number name version place p a same is named h = (λ i. is_near (same i) version (is i)) ∙ near name version place a named h
