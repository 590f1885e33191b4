-- What is found where a requirement is read alike, and where one comparator is read differently.
use Rattle.std.proofs.Common.{◌≡◌, ◌∙◌, ◌<◌, ℕ, suc, zero, Bool, List, [], ◌∷◌, Option, None, Some, IfSome, IsSomeAnd, false, true, arith, get_or, refl, subst, sym}
use Rattle.std.specs.Prelude.{not}
use Rattle.std.specs.List.{Any}
use Rattle.std.proofs.lemmas.List.Elements.{All-head}
use Rattle.semver.specs.Identifiers.{parts_of}
use Rattle.semver.specs.Parse.{Held, Parts}
use Rattle.rustsec_versions.specs.interval.Interval.{Interval, holds}
use Rattle.rustsec_versions.specs.requirement.Requirement.{interval_of}
use Rattle.rustsec_versions.specs.declared.difference.Difference.{Difference}
use Rattle.rustsec_versions.specs.Matching.{Agree, IsDifference, IsReadAs, LeavesLast, first_patch, is_greater, is_read_differently}
use Rattle.rustsec_versions.proofs.Agreement.{AgreeAtPatches}
use Rattle.rustsec_versions.proofs.Law.{differs}

abbrev pub Differs : List Held → Interval → Difference → Type 0
Differs cs i d = IsDifference cs i (parts_of d.release) d.is_held

not-itself : {P : Type 0} (b : Bool) → b ≡ not b → P
not-itself true h = cc h
not-itself false h = cc h

-- a difference is none where they agree
no-difference : {P : Type 0} (cs : List Held) (i : Interval) (v : Parts) (b : Bool) → IsDifference cs i v b → Agree cs i v → P
no-difference cs i v b difference agree = not-itself b (sym difference.held ∙ (agree ∙ difference.matched))

pub none-if-alike : (cs : List Held) (i : Interval) (o : Option Difference) → interval_of cs ≡ Some i → IfSome o (Differs cs i) → IsReadAs cs cs → o ≡ None
none-if-alike cs i None is found alike = refl
none-if-alike cs i (Some d) is found alike =
    no-difference cs i (parts_of d.release) d.is_held found (alike i is (parts_of d.release) found.release)

-- ---- one comparator

only-one : (P : Held → Type 0) (c : Held) (k : ℕ) (x : Held) → k < 1 → get_or (c ∷ []) k x ≡ x → P x → P c
only-one P c zero x within is holds = subst P (sym is) holds
only-one P c (suc k) x within is holds = absurd (omega arith)

abbrev pub IsFirst : Held → Difference → Type 0
IsFirst c d = (parts_of d.release ≡ first_patch c) × (d.is_held ≡ is_greater c.0)

one-found : (c : Held) (i : Interval) (o : Option Difference) → IfSome o (Differs (c ∷ []) i)
    → IfSome o (λ d. Any (λ e. parts_of d.release ≡ first_patch e) (c ∷ [])) → (o ≡ None → AgreeAtPatches (c ∷ []) i)
    → IsDifference (c ∷ []) i (first_patch c) (is_greater c.0) → IsSomeAnd o (IsFirst c)
one-found c i None found first none difference =
    no-difference (c ∷ []) i (first_patch c) (is_greater c.0) difference (All-head (λ e. Agree (c ∷ []) i (first_patch e)) c [] (none refl))
one-found c i (Some d) found first none difference =
    let same = only-one (λ e. parts_of d.release ≡ first_patch e) c first.0 first.1 first.2 first.3 first.4 in
    (same, sym found.held ∙ (subst (λ (v : Parts). holds i v ≡ is_greater c.0) (sym same) difference.held))

pub single-found : (cs : List Held) (i : Interval) (o : Option Difference) → interval_of cs ≡ Some i → IfSome o (Differs cs i)
    → IfSome o (λ d. Any (λ e. parts_of d.release ≡ first_patch e) cs) → (o ≡ None → AgreeAtPatches cs i)
    → (c : Held) → cs ≡ c ∷ [] → LeavesLast c → is_read_differently c ≡ true → IsSomeAnd o (IsFirst c)
single-found cs i o is found first none c one last is_different =
    let this : interval_of (c ∷ []) ≡ Some i = subst (λ (ds : List Held). interval_of ds ≡ Some i) one is in
    one-found c i o (subst (λ (ds : List Held). IfSome o (Differs ds i)) one found)
    (subst (λ (ds : List Held). IfSome o (λ d. Any (λ e. parts_of d.release ≡ first_patch e) ds)) one first)
    (λ is_none. subst (λ (ds : List Held). AgreeAtPatches ds i) one (none is_none)) (differs c i last is_different this)

pub single-differs : (cs : List Held) (c : Held) → cs ≡ c ∷ [] → LeavesLast c → is_read_differently c ≡ true → (i : Interval) → interval_of cs ≡ Some i
    → IsDifference cs i (first_patch c) (is_greater c.0)
single-differs cs c one last is_different i is =
    subst (λ (ds : List Held). interval_of ds ≡ Some i → IsDifference ds i (first_patch c) (is_greater c.0)) (sym one) (differs c i last is_different) is
