-- What the comparators of a requirement state, by their number.
use Rattle.std.proofs.Common.{◌≡◌, ℕ, ◌≤◌, ◌&&◌, List, [], ◌∷◌, length, Some, None, Bool, true, false, refl, sym, arith}
use Rattle.std.specs.Prelude.{unwrap_or}
use Rattle.semver.specs.Grammar.{is_pre_release}
use Rattle.semver.specs.Parse.{Held, Parts}
use Rattle.rustsec_values.specs.Reading.{only_if}
use Rattle.rustsec_versions.specs.interval.Interval.{Interval}
use Rattle.rustsec_versions.specs.requirement.Requirement.{Side, base_version, names_version, of_one, of_sides, side_of, stated}
use Rattle.rustsec_versions.specs.order.Precedence.{fits}
use Rattle.rustsec_versions.proofs.lemmas.requirement.Sound.{and-first, and-second}

-- a value under a test that holds
pub only_if-Some : {A : Type 0} (b : Bool) (x y : A) → only_if b (Some x) ≡ Some y → (b ≡ true) × (x ≡ y)
only_if-Some true x y h = (refl, cc)
only_if-Some false x y h = cc h

none_if : {A : Type 0} (b : Bool) (x : A) → only_if b (Some x) ≡ None → b ≡ false
none_if true x h = cc h
none_if false x h = refl

and-false : (b : Bool) → (b && false) ≡ false
and-false true = refl
and-false false = refl

-- one comparator states what its operator gives
pub stated_one : (c : Held) (v : Parts) → only_if (names_version c) (Some (base_version c)) ≡ Some v
    → (stated (c ∷ []) ≡ of_one c.0 c) × (v ≡ base_version c)
stated_one c v h =
    let a = only_if-Some (names_version c) (base_version c) v h in
    (rw a.0 refl, sym a.1)

-- two comparators state what their sides give
pub stated_two : (c d : Held) (s t : Side) → only_if (names_version c) (Some (side_of c.0 c)) ≡ Some s
    → only_if (names_version d) (Some (side_of d.0 d)) ≡ Some t → stated (c ∷ d ∷ []) ≡ of_sides s t
stated_two c d s t h k =
    let a = only_if-Some (names_version c) (side_of c.0 c) s h in
    let b = only_if-Some (names_version d) (side_of d.0 d) t k in
    rw (a.0, b.0, a.1, b.1) refl

-- the second pre-release is not SemVer text
pub stated_second : (c d : Held) → only_if (names_version d) (Some (side_of d.0 d)) ≡ None → stated (c ∷ d ∷ []) ≡ None
stated_second c d h = rw (none_if _ _ h, and-false) refl

only_if-None : (b : Bool) → only_if {A = Interval} b None ≡ None
only_if-None true = refl
only_if-None false = refl

-- more than two comparators state nothing
pub stated_more : (cs : List Held) → 3 ≤ length cs → stated cs ≡ None
stated_more [] h = absurd (omega arith)
stated_more (c ∷ []) h = absurd (omega arith)
stated_more (c ∷ d ∷ []) h = absurd (omega arith)
stated_more (c ∷ d ∷ e ∷ rest) h = only_if-None _

-- a version whose numbers fit is named where its pre-release is SemVer text
pub base_version-there : (c : Held) (pre : List ℕ) → (fits c.1 && (fits (unwrap_or c.2 0) && fits (unwrap_or c.3 0))) ≡ true
    → only_if (is_pre_release c.4) (Some c.4) ≡ Some pre → only_if (names_version c) (Some (base_version c)) ≡ Some (c.1, unwrap_or c.2 0, unwrap_or c.3 0, pre, [])
base_version-there c pre f h =
    let p = only_if-Some (is_pre_release c.4) c.4 pre h in
    let a : fits c.1 ≡ true = and-first _ _ f in
    let rest : (fits (unwrap_or c.2 0) && fits (unwrap_or c.3 0)) ≡ true = and-second _ _ f in
    let b : fits (unwrap_or c.2 0) ≡ true = and-first _ _ rest in
    let d : fits (unwrap_or c.3 0) ≡ true = and-second _ _ rest in
    rw (a, b, d, p.0, p.1) refl
