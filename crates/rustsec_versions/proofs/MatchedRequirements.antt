-- What the comparators of an admissible requirement are, and which releases they match.
use Rattle.std.proofs.Common.{◌≡◌, ◌∙◌, Bool, List, [], ◌∷◌, Option, None, Some, false, true, ap, refl, subst, sym}
use Rattle.std.specs.Prelude.{◌&&◌}
use Rattle.std.specs.List.{list_all}
use Rattle.std.specs.Cmp.{first_so}
use Rattle.semver.specs.EvalViews.{matches_views, view_op}
use Rattle.semver.specs.Parse.{Held, Parts}
use Rattle.rustsec_values.specs.Reading.{only_if}
use Rattle.rustsec_versions.specs.interval.Interval.{Interval, holds, reaches}
use Rattle.rustsec_versions.specs.order.Precedence.{precedence}
use Rattle.rustsec_versions.specs.requirement.Requirement.{admitted, is_admissible}

-- the interval and the comparator agree on a version
abbrev pub AgreeOn : Held → Interval → Parts → Type 0
AgreeOn c i v = holds i v ≡ view_op c.0 c v

pub and-true : (a : Bool) → (a && true) ≡ a
and-true true = refl
and-true false = refl

pub and-swap : (a b : Bool) → (a && b) ≡ (b && a)
and-swap true b = sym (and-true b)
and-swap false true = refl
and-swap false false = refl

pub both : (a b c d : Bool) → a ≡ c → b ≡ d → (a && b) ≡ (c && d)
both a b c d h k = rw (h, k) refl

-- ---- what is admitted is in order, and it is what the comparators give

pub given : (b : Bool) (o : Option Interval) (i : Interval) → only_if b o ≡ Some i → o ≡ Some i
given true o i is = is
given false o i is = cc is

pub none-or-some : {P : Type 0} (i : Interval) → None ≡ Some i → P
none-or-some i h = cc h

pub some-same : (i j : Interval) → Some i ≡ Some j → i ≡ j
some-same i j is = cc is

admitted-some : (j i : Interval) (b : Bool) → is_admissible j ≡ b → only_if b (Some j) ≡ Some i → (Some j ≡ Some i) × (reaches precedence i.start i.end ≡ true)
admitted-some j i true good is = (is, subst (λ (k : Interval). reaches precedence k.start k.end ≡ true) (some-same j i is) (first_so _ _ good))
admitted-some j i false bad is = cc is

pub admitted-is : (o : Option Interval) (i : Interval) → admitted o ≡ Some i → (o ≡ Some i) × (reaches precedence i.start i.end ≡ true)
admitted-is None i is = cc is
admitted-is (Some j) i is = admitted-some j i (is_admissible j) refl is

-- ---- what the comparators match of a release

pub of-release : (cs : List Held) (v : Parts) → v.3 ≡ [] → matches_views cs v ≡ list_all (λ c. view_op c.0 c v) cs
of-release cs v none = rw none (and-true _)

pub of-one : (c : Held) (v : Parts) → v.3 ≡ [] → matches_views (c ∷ []) v ≡ view_op c.0 c v
of-one c v none = of-release (c ∷ []) v none ∙ and-true (view_op c.0 c v)

pub of-two : (c d : Held) (v : Parts) → v.3 ≡ [] → matches_views (c ∷ d ∷ []) v ≡ (view_op c.0 c v && view_op d.0 d v)
of-two c d v none = of-release (c ∷ d ∷ []) v none ∙ ap (λ b. view_op c.0 c v && b) (and-true (view_op d.0 d v))
