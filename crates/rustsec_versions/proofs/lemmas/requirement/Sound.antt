-- The bounds of a requirement's interval are valid versions without build metadata, so the order of `Version`
-- is precedence between them.
use Rattle.std.proofs.Common.{◌≡◌, ◌<◌, ◌&&◌, ◌^◌, ℕ, zero, suc, List, [], ◌∷◌, Option, Some, None, Bool, true, false, refl, subst, arith}
use Rattle.std.specs.Prelude.{unwrap_or}
use Rattle.std.specs.List.{list_all}
use Rattle.std.specs.Option.{option_map}
use Rattle.std.specs.Ordering.{ordering_then}
use Rattle.std.specs.declared.cmp.Ordering.{Ordering}
use Rattle.std.specs.declared.cmp.Ordering.TheVariants.{Less, Equal, Greater}
use Rattle.std.proofs.lemmas.Bool.Decides.{nat_tests}
use Rattle.semver.specs.Grammar.{is_pre_release}
use Rattle.semver.specs.Order.{build_cmp, pre_cmp}
use Rattle.semver.specs.OrderLaws.{build_parts-self}
use Rattle.semver.specs.Parse.{Held, Parts}
use Rattle.semver.specs.declared.Op.{Op}
use Rattle.semver.specs.declared.Op.TheVariants as op
use Rattle.rustsec_values.specs.Reading.{only_if}
use Rattle.rustsec_versions.specs.interval.Interval.{Endpoint, Interval, exclusive, inclusive, overlap, reaches, unbounded}
use Rattle.rustsec_versions.specs.order.Precedence.{IsVersion, fits, least_of, precedence, version_order}
use Rattle.rustsec_versions.specs.requirement.Requirement.{Side, admitted, caret_end, interval_of, is_admissible, end_cut_exists, start_cut_exists, lower, base_version, names_version, neither, next_major, next_minor, next_patch, of_comparators, of_one, of_sides, side_of, stated, tilde_end, up_to, upper}

-- a valid version without build metadata
pub record IsSound (v : Parts) : Type 0 where
  pub version : IsVersion v
  pub plain : v.4 ≡ []

abbrev pub IsSoundEnd : Endpoint → Type 0
IsSoundEnd unbounded = Unit {0}
IsSoundEnd (exclusive v) = IsSound v
IsSoundEnd (inclusive v) = IsSound v

pub record IsSoundInterval (i : Interval) : Type 0 where
  pub start : IsSoundEnd i.start
  pub end : IsSoundEnd i.end

-- ---- small steps

pub and-first : (a b : Bool) → (a && b) ≡ true → a ≡ true
and-first true b h = refl
and-first false b h = cc h

pub and-second : (a b : Bool) → (a && b) ≡ true → b ≡ true
and-second true b h = h
and-second false b h = cc h

pub fits-below : (n : ℕ) → fits n ≡ true → n < 2 ^ 64
fits-below n h = grind (arith, nat_tests)

pub some-same : {A : Type 0} (x y : A) → Some x ≡ Some y → x ≡ y
some-same x y h = cc h

pub only_if-true : {A : Type 0} (b : Bool) (o : Option A) (x : A) → only_if b o ≡ Some x → (b ≡ true) × (o ≡ Some x)
only_if-true true o x h = (refl, h)
only_if-true false o x h = cc h

-- ---- the versions of one comparator

base_version-sound : (c : Held) → names_version c ≡ true → IsSound (base_version c)
base_version-sound c h =
    let a : fits c.1 ≡ true = and-first _ _ h in
    let rest : (fits (unwrap_or c.2 0) && (fits (unwrap_or c.3 0) && is_pre_release c.4)) ≡ true = and-second _ _ h in
    let b : fits (unwrap_or c.2 0) ≡ true = and-first _ _ rest in
    let last : (fits (unwrap_or c.3 0) && is_pre_release c.4) ≡ true = and-second _ _ rest in
    let d : fits (unwrap_or c.3 0) ≡ true = and-first _ _ last in
    record {
      version = record { major = fits-below _ a; minor = fits-below _ b; patch = fits-below _ d; pre = and-second _ _ last };
      plain = refl;
    }

least-sound : (a b c : ℕ) → a < 2 ^ 64 → b < 2 ^ 64 → c < 2 ^ 64 → IsSound (least_of a b c)
least-sound a b c p q r = record { version = record { major = p; minor = q; patch = r; pre = refl }; plain = refl }

raised : (b : Bool) (v w : Parts) → (b ≡ true → IsSound v) → only_if b (Some v) ≡ Some w → IsSound w
raised b v w s h =
    let t = only_if-true b (Some v) w h in
    subst IsSound (some-same v w t.1) (s t.0)

major-sound : (a : ℕ) (w : Parts) → next_major a ≡ Some w → IsSound w
major-sound a w h = raised _ _ w (λ t. least-sound _ _ _ (fits-below _ t) (omega arith) (omega arith)) h

minor-sound : (a b : ℕ) (w : Parts) → a < 2 ^ 64 → next_minor a b ≡ Some w → IsSound w
minor-sound a b w p h = raised _ _ w (λ t. least-sound _ _ _ p (fits-below _ t) (omega arith)) h

patch-sound : (c : ℕ) (w : Parts) → next_patch 0 0 c ≡ Some w → IsSound w
patch-sound c w h = raised _ _ w (λ t. least-sound _ _ _ (omega arith) (omega arith) (fits-below _ t)) h

caret-sound : (a : ℕ) (b c : Option ℕ) (w : Parts) → caret_end a b c ≡ Some w → IsSound w
caret-sound a None (Some c) w h = cc h
caret-sound (suc a) None None w h = major-sound (suc a) w h
caret-sound (suc a) (Some b) c w h = major-sound (suc a) w h
caret-sound zero None None w h = major-sound 0 w h
caret-sound zero (Some zero) (Some c) w h = patch-sound c w h
caret-sound zero (Some zero) None w h = minor-sound 0 0 w (omega arith) h
caret-sound zero (Some (suc b)) c w h = minor-sound 0 (suc b) w (omega arith) h

tilde-sound : (a : ℕ) (b c : Option ℕ) (w : Parts) → a < 2 ^ 64 → tilde_end a b c ≡ Some w → IsSound w
tilde-sound a None (Some c) w p h = cc h
tilde-sound a None None w p h = major-sound a w h
tilde-sound a (Some b) c w p h = minor-sound a b w p h

-- ---- the intervals of one comparator and of two

along : (j i : Interval) → Some j ≡ Some i → IsSoundInterval j → IsSoundInterval i
along j i h p = subst IsSoundInterval (some-same j i h) p

to_end : (s : Parts) (o : Option Parts) (i : Interval) → IsSound s → ((w : Parts) → o ≡ Some w → IsSound w)
    → option_map (up_to s) o ≡ Some i → IsSoundInterval i
to_end s None i p q h = cc h
to_end s (Some w) i p q h = along _ i h (record { start = p; end = q w refl })

of_one-sound : (o : Op) (c : Held) (i : Interval) → names_version c ≡ true → of_one o c ≡ Some i → IsSoundInterval i
of_one-sound op.Greater c i n h = along _ i h (record { start = base_version-sound c n; end = tt })
of_one-sound op.GreaterEq c i n h = along _ i h (record { start = base_version-sound c n; end = tt })
of_one-sound op.Less c i n h = along _ i h (record { start = tt; end = base_version-sound c n })
of_one-sound op.LessEq c i n h = along _ i h (record { start = tt; end = base_version-sound c n })
of_one-sound op.Exact c i n h = along _ i h (record { start = base_version-sound c n; end = base_version-sound c n })
of_one-sound op.Caret c i n h = to_end (base_version c) (caret_end c.1 c.2 c.3) i (base_version-sound c n) (caret-sound c.1 c.2 c.3) h
of_one-sound op.Tilde c i n h =
    to_end (base_version c) (tilde_end c.1 c.2 c.3) i (base_version-sound c n) (λ w. tilde-sound c.1 c.2 c.3 w ((base_version-sound c n).version.major)) h
of_one-sound op.Wildcard c i n h = cc h

abbrev IsSoundSide : Side → Type 0
IsSoundSide (lower s) = IsSoundEnd s
IsSoundSide (upper e) = IsSoundEnd e
IsSoundSide neither = Unit {0}

side_of-sound : (o : Op) (c : Held) → names_version c ≡ true → IsSoundSide (side_of o c)
side_of-sound op.Greater c n = base_version-sound c n
side_of-sound op.GreaterEq c n = base_version-sound c n
side_of-sound op.Less c n = base_version-sound c n
side_of-sound op.LessEq c n = base_version-sound c n
side_of-sound op.Exact c n = tt
side_of-sound op.Caret c n = tt
side_of-sound op.Tilde c n = tt
side_of-sound op.Wildcard c n = tt

of_sides-sound : (a b : Side) (i : Interval) → IsSoundSide a → IsSoundSide b → of_sides a b ≡ Some i → IsSoundInterval i
of_sides-sound (lower s) (upper e) i p q h = along _ i h (record { start = p; end = q })
of_sides-sound (upper e) (lower s) i p q h = along _ i h (record { start = q; end = p })
of_sides-sound (lower s) (lower t) i p q h = cc h
of_sides-sound (lower s) neither i p q h = cc h
of_sides-sound (upper e) (upper f) i p q h = cc h
of_sides-sound (upper e) neither i p q h = cc h
of_sides-sound neither b i p q h = cc h

of_comparators-sound : (cs : List Held) (i : Interval) → list_all names_version cs ≡ true → of_comparators cs ≡ Some i → IsSoundInterval i
of_comparators-sound [] i n h = along _ i h (record { start = tt; end = tt })
of_comparators-sound (c ∷ []) i n h = of_one-sound c.0 c i (and-first _ _ n) h
of_comparators-sound (c ∷ d ∷ []) i n h =
    of_sides-sound _ _ i (side_of-sound c.0 c (and-first _ _ n)) (side_of-sound d.0 d (and-first _ _ (and-second _ _ n))) h
of_comparators-sound (c ∷ d ∷ e ∷ rest) i n h = cc h

-- ---- requirements

-- the interval that comparators state
pub stated-sound : (cs : List Held) (i : Interval) → stated cs ≡ Some i → IsSoundInterval i
stated-sound cs i h =
    let t = only_if-true (list_all names_version cs) (of_comparators cs) i h in
    of_comparators-sound cs i t.0 t.1

-- what an interval that was admitted is
pub admitted-is : (o : Option Interval) (i : Interval) → admitted o ≡ Some i → (o ≡ Some i) × (is_admissible i ≡ true)
admitted-is None i h = cc h
admitted-is (Some j) i h =
    let t = only_if-true (is_admissible j) (Some j) i h in
    let e = some-same j i t.1 in
    (t.1, subst (λ (k : Interval). is_admissible k ≡ true) e t.0)

-- the interval of a requirement
pub interval_of-sound : (cs : List Held) (i : Interval) → interval_of cs ≡ Some i → IsSoundInterval i
interval_of-sound cs i h = stated-sound cs i ((admitted-is (stated cs) i h).0)

pub interval_of-admissible : (cs : List Held) (i : Interval) → interval_of cs ≡ Some i → is_admissible i ≡ true
interval_of-admissible cs i h = (admitted-is (stated cs) i h).1

-- what an admissible interval has
pub admissible-reaches : (i : Interval) → is_admissible i ≡ true → reaches precedence i.start i.end ≡ true
admissible-reaches i h = and-first _ _ h

pub admissible-start : (i : Interval) → is_admissible i ≡ true → start_cut_exists i.start ≡ true
admissible-start i h = and-first _ _ (and-second _ _ h)

pub admissible-end : (i : Interval) → is_admissible i ≡ true → end_cut_exists i.end ≡ true
admissible-end i h = and-second _ _ (and-second _ _ h)

-- ---- the two orders

then_Equal : (o : Ordering) → ordering_then o Equal ≡ o
then_Equal Less = refl
then_Equal Equal = refl
then_Equal Greater = refl

-- without build metadata the two orders agree
pub order-plain : (a b : Parts) → a.4 ≡ [] → b.4 ≡ [] → version_order a b ≡ precedence a b
order-plain a b p q =
    let e : build_cmp a.4 b.4 ≡ Equal = rw (p, q) (build_parts-self []) in
    rw (e, then_Equal (pre_cmp a.3 b.3)) refl

pub reaches-plain : (s e : Endpoint) → IsSoundEnd s → IsSoundEnd e → reaches version_order s e ≡ reaches precedence s e
reaches-plain unbounded e p q = refl
reaches-plain (exclusive a) unbounded p q = refl
reaches-plain (exclusive a) (exclusive b) p q = rw (order-plain a b p.plain q.plain) refl
reaches-plain (exclusive a) (inclusive b) p q = rw (order-plain a b p.plain q.plain) refl
reaches-plain (inclusive a) unbounded p q = refl
reaches-plain (inclusive a) (exclusive b) p q = rw (order-plain a b p.plain q.plain) refl
reaches-plain (inclusive a) (inclusive b) p q = rw (order-plain a b p.plain q.plain) refl

pub overlap-plain : (i j : Interval) → IsSoundInterval i → IsSoundInterval j → overlap version_order i j ≡ overlap precedence i j
overlap-plain i j p q = rw (reaches-plain i.start j.end p.start q.end, reaches-plain j.start i.end q.start p.end) refl

and-true : (b : Bool) → (b && true) ≡ b
and-true true = refl
and-true false = refl

-- the interval of a requirement whose bounds have the versions that they want
pub interval_of-stated : (cs : List Held) (i : Interval) → stated cs ≡ Some i → start_cut_exists i.start ≡ true → end_cut_exists i.end ≡ true
    → interval_of cs ≡ only_if (reaches version_order i.start i.end) (Some i)
interval_of-stated cs i h s e =
    let sound = stated-sound cs i h in
    rw (h, s, e, and-true, reaches-plain i.start i.end sound.start sound.end) refl
