-- No two places clash exactly if no interval clashes with a later one.
use Rattle.std.proofs.Common.{◌≡◌, ◌==◌, ◌<◌, ◌≤◌, ◌+◌, ◌&&◌, ◌||◌, ℕ, Bool, true, false, List, [], ◌∷◌, ◌++◌, Option, Some, None, length, map, refl, sym, ap, ◌∙◌, arith}
use Rattle.std.specs.Option.{option_map}
use Rattle.std.specs.Prelude.{filter_map, is_some, not}
use Rattle.std.specs.List.{cons_option, enumerate_from, list_any}
use Rattle.std.specs.declared.cmp.Ordering.{Ordering}
use Rattle.std.proofs.lemmas.Bool.Decides.{nat_tests}
use Rattle.std.proofs.lemmas.List.{map-append}
use Rattle.std.proofs.lemmas.List.Elements.{filter_map-append}
use Rattle.std.proofs.lemmas.Bool.{not-true}
use Rattle.semver.specs.Parse.{Held, Parts}
use Rattle.rustsec_versions.specs.interval.Apart.{are_apart}
use Rattle.rustsec_versions.specs.interval.Interval.{Endpoint, Interval, exclusive, holds, inclusive, is_after, is_before, overlap, reaches, unbounded}
use Rattle.rustsec_versions.specs.acceptance.Lists.{Lists, Place, Placed, accepted, accepted_apart, affected, all_admissible, clash, in_patched, in_unaffected, intervals, is_patched, is_same, joined, meet, no_lists, some_clash}
use Rattle.rustsec_versions.specs.order.Precedence.{precedence, with_build}
use Rattle.rustsec_versions.specs.requirement.Requirement.{interval_of}
use Rattle.rustsec_versions.specs.acceptance.Sweep.{TaggedInterval, are_clear, clashes, tag, tagged, all_tagged, spans}
use Rattle.rustsec_versions.proofs.lemmas.requirement.Sound.{IsSoundInterval, and-first, and-second, interval_of-sound}

-- ---- tests

or-swap : (a b c d : Bool) → ((a || b) || (c || d)) ≡ ((a || c) || (b || d))
or-swap true b c d = refl
or-swap false true true d = refl
or-swap false true false d = refl
or-swap false false c d = refl

any-or : {X : Type 0} (f g : X → Bool) (xs : List X) → list_any (λ x. f x || g x) xs ≡ (list_any f xs || list_any g xs)
any-or f g [] = refl
any-or f g (x ∷ xs) = rw (any-or f g xs) (or-swap (f x) (g x) (list_any f xs) (list_any g xs))

any-same : {X : Type 0} (f g : X → Bool) → ((x : X) → f x ≡ g x) → (xs : List X) → list_any f xs ≡ list_any g xs
any-same f g same [] = refl
any-same f g same (x ∷ xs) = rw (same x, any-same f g same xs) refl

and-swap : (a b : Bool) → (a && b) ≡ (b && a)
and-swap true true = refl
and-swap true false = refl
and-swap false true = refl
and-swap false false = refl

twice : (a r : Bool) → ((false || a) || (a || r)) ≡ (a || r)
twice true r = refl
twice false r = refl

-- ---- clashes

pub overlap-sym : (order : Parts → Parts → Ordering) (i j : Interval) → overlap order i j ≡ overlap order j i
overlap-sym order i j = and-swap (reaches order i.start j.end) (reaches order j.start i.end)

meet-sym : (i j : Option Interval) → meet i j ≡ meet j i
meet-sym None None = refl
meet-sym None (Some j) = refl
meet-sym (Some i) None = refl
meet-sym (Some i) (Some j) = overlap-sym precedence i j

number-sym : (j k : ℕ) → (j == k) ≡ (k == j)
number-sym j k = grind (arith, nat_tests)

is_same-sym : (p q : Place) → is_same p q ≡ is_same q p
is_same-sym (in_patched j) (in_patched k) = number-sym j k
is_same-sym (in_patched j) (in_unaffected k) = refl
is_same-sym (in_unaffected j) (in_patched k) = refl
is_same-sym (in_unaffected j) (in_unaffected k) = number-sym j k

number-self : (j : ℕ) → (j == j) ≡ true
number-self j = grind (arith, nat_tests)

is_same-self : (p : Place) → is_same p p ≡ true
is_same-self (in_patched j) = number-self j
is_same-self (in_unaffected j) = number-self j

clash-sym : (p q : Placed) → clash p q ≡ clash q p
clash-sym p q =
    rw (is_same-sym p.place q.place, and-swap (is_patched p.place) (is_patched q.place), meet-sym (interval_of p.requirement) (interval_of q.requirement)) refl

clash-self : (p : Placed) → clash p p ≡ false
clash-self p = rw (is_same-self p.place) refl

-- a new place does not clash with itself, and clashes with another place exactly if that one clashes with it
some_clash-cons : (p : Placed) (ps : List Placed) → some_clash (p ∷ ps) ≡ (list_any (clash p) ps || some_clash ps)
some_clash-cons p ps =
    let flipped : list_any (λ q. clash q p) ps ≡ list_any (clash p) ps = any-same (λ q. clash q p) (clash p) (λ q. clash-sym q p) ps in
    let later : list_any (λ q. list_any (clash q) (p ∷ ps)) ps ≡ (list_any (clash p) ps || some_clash ps) =
    any-or (λ q. clash q p) (λ q. list_any (clash q) ps) ps ∙ ap (λ (b : Bool). b || some_clash ps) flipped in
    rw (clash-self p, later) (twice (list_any (clash p) ps) (some_clash ps))

-- ---- places that differ

abbrev IsOther : Placed → List Placed → Type 0
IsOther p [] = Unit {0}
IsOther p (q ∷ qs) = (is_same p.place q.place ≡ false) × IsOther p qs

abbrev IsDistinct : List Placed → Type 0
IsDistinct [] = Unit {0}
IsDistinct (p ∷ ps) = IsOther p ps × IsDistinct ps

IsOther-append : (p : Placed) (qs rs : List Placed) → IsOther p qs → IsOther p rs → IsOther p (qs ++ rs)
IsOther-append p [] rs a b = b
IsOther-append p (q ∷ qs) rs a b = (a.0, IsOther-append p qs rs a.1 b)

AreOther : List Placed → List Placed → Type 0
AreOther [] qs = Unit {0}
AreOther (p ∷ ps) qs = IsOther p qs × AreOther ps qs

IsDistinct-append : (ps qs : List Placed) → IsDistinct ps → IsDistinct qs → AreOther ps qs → IsDistinct (ps ++ qs)
unfolding AreOther
IsDistinct-append [] qs a b c = b
IsDistinct-append (p ∷ ps) qs a b c = (IsOther-append p ps qs a.0 c.0, IsDistinct-append ps qs a.1 b c.1)

abbrev from : (ℕ → Place) → ℕ → List (List Held) → List Placed
from at n rs = map (λ e. record { place = at e.0; requirement = e.1 }) (enumerate_from n rs)

number-lower : (j k : ℕ) → j < k → (j == k) ≡ false
number-lower j k h = grind (arith, nat_tests)

module _ (at : ℕ → Place) (numbered : (j k : ℕ) → is_same (at j) (at k) ≡ (j == k)) where
  IsOther-from : (p : Placed) (j n : ℕ) (rs : List (List Held)) → p.place ≡ at j → j < n → IsOther p (from at n rs)
  IsOther-from p j n [] e h = tt
  IsOther-from p j n (r ∷ rs) e h = (rw e (numbered j n ∙ number-lower j n h), IsOther-from p j (n + 1) rs e (omega arith))

  IsDistinct-from : (n : ℕ) (rs : List (List Held)) → IsDistinct (from at n rs)
  IsDistinct-from n [] = tt
  IsDistinct-from n (r ∷ rs) = (IsOther-from (record { place = at n; requirement = r }) n (n + 1) rs refl (omega arith), IsDistinct-from (n + 1) rs)

IsOther-lists : (j : ℕ) (r : List Held) (n : ℕ) (rs : List (List Held)) → IsOther (record { place = in_patched j; requirement = r }) (from in_unaffected n rs)
IsOther-lists j r n [] = tt
IsOther-lists j r n (s ∷ rs) = (refl, IsOther-lists j r (n + 1) rs)

AreOther-lists : (m n : ℕ) (rs ss : List (List Held)) → AreOther (from in_patched m rs) (from in_unaffected n ss)
unfolding AreOther
AreOther-lists m n [] ss = tt
AreOther-lists m n (r ∷ rs) ss = (IsOther-lists m r n ss, AreOther-lists (m + 1) n rs ss)

IsDistinct-joined : (ls : Lists) → IsDistinct (joined ls)
IsDistinct-joined ls =
    IsDistinct-append (from in_patched 0 ls.patched) (from in_unaffected 0 ls.unaffected) (IsDistinct-from in_patched (λ j k. refl) 0 ls.patched)
    (IsDistinct-from in_unaffected (λ j k. refl) 0 ls.unaffected) (AreOther-lists 0 0 ls.patched ls.unaffected)

-- the requirements at the places are those of the lists
abbrev at_places : List Placed → List (List Held)
at_places ps = map (λ p. p.requirement) ps

at_places-from : (at : ℕ → Place) (n : ℕ) (rs : List (List Held)) → at_places (from at n rs) ≡ rs
at_places-from at n [] = refl
at_places-from at n (r ∷ rs) = ap (λ (l : List (List Held)). r ∷ l) (at_places-from at (n + 1) rs)

at_places-append : (ps qs : List Placed) → at_places (ps ++ qs) ≡ at_places ps ++ at_places qs
at_places-append [] qs = refl
at_places-append (p ∷ ps) qs = ap (λ (l : List (List Held)). p.requirement ∷ l) (at_places-append ps qs)

at_places-joined : (ls : Lists) → at_places (joined ls) ≡ ls.patched ++ ls.unaffected
at_places-joined ls =
    at_places-append (from in_patched 0 ls.patched) (from in_unaffected 0 ls.unaffected)
    ∙ rw (at_places-from in_patched 0 ls.patched, at_places-from in_unaffected 0 ls.unaffected) refl

-- ---- clashes and intervals

there : (o : Option Interval) → is_some o ≡ true → (i : Interval) × (o ≡ Some i)
there None h = cc h
there (Some i) h = (i, refl)

-- the interval at a place
abbrev at_tag : Placed → Option TaggedInterval
at_tag p = option_map (tag (is_patched p.place)) (interval_of p.requirement)

abbrev at_tags : List Placed → List TaggedInterval
at_tags ps = filter_map at_tag ps

meet-there : (s b : Bool) (o u : Option Interval) (i j : Interval) → s ≡ false → o ≡ Some i → u ≡ Some j
    → (not s && (not b && meet o u)) ≡ (not b && overlap precedence i j)
meet-there s b o u i j h k l = rw (h, k, l) refl

any-there : (test : TaggedInterval → Bool) (b : Bool) (o : Option Interval) (i : Interval) (cs : List TaggedInterval) → o ≡ Some i
    → list_any test (cons_option (option_map (tag b) o) cs) ≡ (test (tag b i) || list_any test cs)
any-there test b o i cs h = rw h refl

clear-there : (b : Bool) (o : Option Interval) (i : Interval) (cs : List TaggedInterval) → o ≡ Some i
    → are_clear (cons_option (option_map (tag b) o) cs) ≡ (not (list_any (clashes (tag b i)) cs) && are_clear cs)
clear-there b o i cs h = rw h refl

or-same : (a b c d : Bool) → a ≡ c → b ≡ d → (a || b) ≡ (c || d)
or-same a b c d h k = rw (h, k) refl

any_clash : (p : Placed) (i : Interval) (ps : List Placed) → interval_of p.requirement ≡ Some i → IsOther p ps
    → all_admissible (at_places ps) ≡ true → list_any (clash p) ps ≡ list_any (clashes (tag (is_patched p.place) i)) (at_tags ps)
any_clash p i [] e other all = refl
any_clash p i (q ∷ ps) e other all =
    let j = there (interval_of q.requirement) (and-first _ _ all) in
    let test = clashes (tag (is_patched p.place) i) in
    or-same (clash p q) (list_any (clash p) ps) (test (tag (is_patched q.place) j.0)) (list_any test (at_tags ps))
    (meet-there (is_same p.place q.place) (is_patched p.place && is_patched q.place) _ _ i j.0 other.0 e j.1)
    (any_clash p i ps e other.1 (and-second _ _ all))
    ∙ sym (any-there test (is_patched q.place) (interval_of q.requirement) j.0 (at_tags ps) j.1)

not-or : (a b : Bool) → (a || not b) ≡ not (not a && b)
not-or true b = refl
not-or false b = refl

clash-clear : (ps : List Placed) → IsDistinct ps → all_admissible (at_places ps) ≡ true → some_clash ps ≡ not (are_clear (at_tags ps))
clash-clear [] d all = refl
clash-clear (p ∷ ps) d all =
    let i = there (interval_of p.requirement) (and-first _ _ all) in
    let test = clashes (tag (is_patched p.place) i.0) in
    some_clash-cons p ps
    ∙ or-same (list_any (clash p) ps) (some_clash ps) (list_any test (at_tags ps)) (not (are_clear (at_tags ps)))
    (any_clash p i.0 ps i.1 d.0 (and-second _ _ all)) (clash-clear ps d.1 (and-second _ _ all))
    ∙ not-or (list_any test (at_tags ps)) (are_clear (at_tags ps))
    ∙ ap not (sym (clear-there (is_patched p.place) (interval_of p.requirement) i.0 (at_tags ps) i.1))

-- ---- the intervals at the places are those of the lists

tagged-cons : (b c : Bool) (o : Option Interval) (cs : List TaggedInterval) (is : List Interval) → c ≡ b → cs ≡ map (tag b) is
    → cons_option (option_map (tag c) o) cs ≡ map (tag b) (cons_option o is)
tagged-cons b c None cs is h k = k
tagged-cons b c (Some i) cs is h k = rw (h, k) refl

at_tags-from : (at : ℕ → Place) (b : Bool) → ((n : ℕ) → is_patched (at n) ≡ b) → (n : ℕ) (rs : List (List Held)) → at_tags (from at n rs) ≡ tagged b rs
at_tags-from at b h n [] = refl
at_tags-from at b h n (r ∷ rs) = tagged-cons b (is_patched (at n)) (interval_of r) _ (filter_map interval_of rs) (h n) (at_tags-from at b h (n + 1) rs)

at_tags-joined : (ls : Lists) → at_tags (joined ls) ≡ all_tagged ls
at_tags-joined ls =
    filter_map-append at_tag (from in_patched 0 ls.patched) (from in_unaffected 0 ls.unaffected)
    ∙ rw (at_tags-from in_patched true (λ n. refl) 0 ls.patched, at_tags-from in_unaffected false (λ n. refl) 0 ls.unaffected) refl

spans-tagged : (b : Bool) (is : List Interval) → spans (map (tag b) is) ≡ is
spans-tagged b [] = refl
spans-tagged b (i ∷ is) = ap (λ (l : List Interval). i ∷ l) (spans-tagged b is)

pub spans-all_tagged : (ls : Lists) → spans (all_tagged ls) ≡ intervals ls
spans-all_tagged ls =
    map-append (λ c. c.interval) (tagged true ls.patched) (tagged false ls.unaffected)
    ∙ rw (spans-tagged true (filter_map interval_of ls.patched), spans-tagged false (filter_map interval_of ls.unaffected))
    (sym (filter_map-append interval_of ls.patched ls.unaffected))

not-not : (b : Bool) → not (not b) ≡ b
not-not true = refl
not-not false = refl

-- lists of admissible requirements are accepted if no two of their intervals clash
pub accepted-clear : (ls : Lists) → all_admissible (ls.patched ++ ls.unaffected) ≡ true → accepted ls ≡ are_clear (all_tagged ls)
unfolding accepted
accepted-clear ls all =
    let same = at_places-joined ls in
    let tagged = at_tags-joined ls in
    let clear = clash-clear (joined ls) (IsDistinct-joined ls) (rw same all) in
    rw (all, clear, tagged) (not-not _)

-- ---- intervals that are apart don't clash

no-clash : (b o : Bool) → o ≡ false → (not b && o) ≡ false
no-clash true o h = refl
no-clash false o h = h

or-first : (a b : Bool) → (a || b) ≡ false → a ≡ false
or-first true b h = cc h
or-first false b h = refl

or-second : (a b : Bool) → (a || b) ≡ false → b ≡ false
or-second true b h = cc h
or-second false b h = h

-- an interval that does not overlap any of a list does not clash with any of them
pub none-clash : (c : TaggedInterval) (cs : List TaggedInterval) → list_any (overlap precedence c.interval) (spans cs) ≡ false → list_any (clashes c) cs ≡ false
none-clash c [] h = refl
none-clash c (d ∷ cs) h =
    rw (no-clash (c.is_patched && d.is_patched) (overlap precedence c.interval d.interval) (or-first _ _ h)) (none-clash c cs (or-second _ _ h))

pub apart-clear : (cs : List TaggedInterval) → are_apart precedence (spans cs) ≡ true → are_clear cs ≡ true
apart-clear [] h = refl
apart-clear (c ∷ cs) h = rw (none-clash c cs (not-true _ (and-first _ _ h))) (apart-clear cs (and-second _ _ h))

any-tagged : (i : Interval) (is : List Interval) → list_any (clashes (tag false i)) (map (tag false) is) ≡ list_any (overlap precedence i) is
any-tagged i [] = refl
any-tagged i (j ∷ is) = ap (λ (b : Bool). overlap precedence i j || b) (any-tagged i is)

-- unaffected intervals clash if they overlap
pub tagged-apart : (is : List Interval) → are_clear (map (tag false) is) ≡ are_apart precedence is
tagged-apart [] = refl
tagged-apart (i ∷ is) = rw (any-tagged i is, tagged-apart is) refl

-- lists without two requirements that overlap have admissible requirements
pub apart-all : (ls : Lists) → accepted_apart ls ≡ true → all_admissible (ls.patched ++ ls.unaffected) ≡ true
apart-all ls h = and-first _ _ h

pub apart-intervals : (ls : Lists) → accepted_apart ls ≡ true → are_apart precedence (intervals ls) ≡ true
apart-intervals ls h = and-second _ _ h

-- no two requirements overlap if no two clash with each one as an unaffected one
pub apart-tagged : (ls : Lists) → all_admissible (ls.patched ++ ls.unaffected) ≡ true
    → accepted_apart ls ≡ are_clear (tagged false (ls.patched ++ ls.unaffected))
apart-tagged ls all = rw all (sym (tagged-apart (intervals ls)))

pub accepted_if_apart : (ls : Lists) → accepted_apart ls ≡ true → accepted ls ≡ true
accepted_if_apart ls h =
    accepted-clear ls (apart-all ls h) ∙ apart-clear (all_tagged ls) (rw (spans-all_tagged ls) (apart-intervals ls h))

-- ---- the order of `Version`

abbrev pub AllSound : List Interval → Type 0
AllSound [] = Unit {0}
AllSound (i ∷ is) = IsSoundInterval i × AllSound is

found_sound : (o : Option Interval) (is : List Interval) → ((i : Interval) → o ≡ Some i → IsSoundInterval i) → AllSound is
    → AllSound (cons_option o is)
found_sound None is all rest = rest
found_sound (Some i) is all rest = (all i refl, rest)

pub intervals-sound : (rs : List (List Held)) → AllSound (filter_map interval_of rs)
intervals-sound [] = tt
intervals-sound (r ∷ rs) = found_sound (interval_of r) (filter_map interval_of rs) (interval_of-sound r) (intervals-sound rs)

-- lists with a requirement that is not admissible are not accepted
pub accepted-refused : (ls : Lists) → all_admissible (ls.patched ++ ls.unaffected) ≡ false → accepted ls ≡ false
unfolding accepted
accepted-refused ls bad = rw bad refl

-- accepted lists have admissible requirements alone
pub accepted-all : (ls : Lists) → accepted ls ≡ true → all_admissible (ls.patched ++ ls.unaffected) ≡ true
unfolding accepted
accepted-all ls h = and-first _ _ h

-- no requirement at all is accepted
pub accepted-none : accepted no_lists ≡ true
unfolding accepted
accepted-none = refl

-- ---- what is affected does not depend on build metadata

after-build : (s : Endpoint) (v : Parts) (b : List ℕ) → is_after s (with_build b v) ≡ is_after s v
after-build unbounded v b = refl
after-build (exclusive s) v b = refl
after-build (inclusive s) v b = refl

before-build : (e : Endpoint) (v : Parts) (b : List ℕ) → is_before e (with_build b v) ≡ is_before e v
before-build unbounded v b = refl
before-build (exclusive e) v b = refl
before-build (inclusive e) v b = refl

pub affected-build : (ls : Lists) (v : Parts) (b : List ℕ) → affected ls (with_build b v) ≡ affected ls v
unfolding affected
affected-build ls v b =
    ap not (any-same (λ i. holds i (with_build b v)) (λ i. holds i v) (λ i. rw (after-build i.start v b, before-build i.end v b) refl) (intervals ls))

-- ---- at most one patched requirement

-- an unaffected interval clashes with another one if they overlap, whichever list that one is in
any-unaffected : (b : Bool) (i : Interval) (is : List Interval)
    → list_any (clashes (tag b i)) (map (tag false) is) ≡ list_any (clashes (tag false i)) (map (tag false) is)
any-unaffected b i [] = refl
any-unaffected true i (j ∷ is) = ap (λ (r : Bool). overlap precedence i j || r) (any-unaffected true i is)
any-unaffected false i (j ∷ is) = refl

-- accepted lists with one patched requirement at most are accepted with it as an unaffected one
few-clear : (ps us : List (List Held)) → length ps ≤ 1 → all_admissible (ps ++ us) ≡ true
    → are_clear (tagged true ps ++ tagged false us) ≡ true → are_clear (tagged false (ps ++ us)) ≡ true
few-clear [] us few all h = h
few-clear (p ∷ []) us few all h =
    let i = there (interval_of p) (and-first _ _ all) in
    let rest = filter_map interval_of us in
    let patched : (not (list_any (clashes (tag true i.0)) (map (tag false) rest)) && are_clear (map (tag false) rest)) ≡ true = rw i.1 at h in
    rw (i.1, ← any-unaffected true i.0 rest) patched
few-clear (p ∷ q ∷ ps) us few all h = grind arith

pub apart_few : (ls : Lists) → length ls.patched ≤ 1 → accepted ls ≡ true → accepted_apart ls ≡ true
apart_few ls few h =
    let all = accepted-all ls h in
    apart-tagged ls all ∙ few-clear ls.patched ls.unaffected few all (sym (accepted-clear ls all) ∙ h)
