-- The score of base metrics, in tenths, and its rating: CVSS 3.1, sections 5, 7.1 and 7.4, in exact whole units of
-- 10^-12 instead of floating point.
use Rattle.std.specs.Prelude.{◌≡◌, ℕ, zero, suc, ◌+◌, ◌-◌, ◌*◌, ◌/◌, ◌^◌, ◌≤◌, ◌==◌, Bool, true, false, List, min, nat_lt, if◌then◌else◌, codes}
use Rattle.std.specs.Ordering.{nat_cmp, on}
use Rattle.std.specs.declared.cmp.Ordering.{Ordering}
use Rattle.rustsec_lock.specs.declared.metrics.AttackComplexity.{AttackComplexity}
use Rattle.rustsec_lock.specs.declared.metrics.AttackComplexity.TheVariants as attack_complexity
use Rattle.rustsec_lock.specs.declared.metrics.AttackVector.{AttackVector}
use Rattle.rustsec_lock.specs.declared.metrics.AttackVector.TheVariants as attack_vector
use Rattle.rustsec_lock.specs.declared.metrics.Availability.{Availability}
use Rattle.rustsec_lock.specs.declared.metrics.Availability.TheVariants as availability
use Rattle.rustsec_lock.specs.declared.metrics.Base.{Base}
use Rattle.rustsec_lock.specs.declared.metrics.Confidentiality.{Confidentiality}
use Rattle.rustsec_lock.specs.declared.metrics.Confidentiality.TheVariants as confidentiality
use Rattle.rustsec_lock.specs.declared.metrics.Integrity.{Integrity}
use Rattle.rustsec_lock.specs.declared.metrics.Integrity.TheVariants as integrity
use Rattle.rustsec_lock.specs.declared.metrics.PrivilegesRequired.{PrivilegesRequired}
use Rattle.rustsec_lock.specs.declared.metrics.PrivilegesRequired.TheVariants as privileges_required
use Rattle.rustsec_lock.specs.declared.metrics.Scope.{Scope}
use Rattle.rustsec_lock.specs.declared.metrics.Scope.TheVariants as scope
use Rattle.rustsec_lock.specs.declared.metrics.UserInteraction.{UserInteraction}
use Rattle.rustsec_lock.specs.declared.metrics.UserInteraction.TheVariants as user_interaction
use Rattle.rustsec_lock.specs.declared.severity.Severity.{Severity}
use Rattle.rustsec_lock.specs.declared.severity.Severity.TheVariants as severity

-- one, and a number of thousandths of it
abbrev pub one : ℕ
one = 10 ^ 12

abbrev pub thousandths : ℕ → ℕ
thousandths n = n * 10 ^ 9

-- a product, rounded down to whole units
abbrev pub mul : ℕ → ℕ → ℕ
mul x y = x * y / one

-- ---- the weights of the values: section 7.4

abbrev pub attack_vector_weight : AttackVector → ℕ
attack_vector_weight attack_vector.Network = thousandths 850
attack_vector_weight attack_vector.Adjacent = thousandths 620
attack_vector_weight attack_vector.Local = thousandths 550
attack_vector_weight attack_vector.Physical = thousandths 200

abbrev pub attack_complexity_weight : AttackComplexity → ℕ
attack_complexity_weight attack_complexity.Low = thousandths 770
attack_complexity_weight attack_complexity.High = thousandths 440

abbrev pub privileges_required_weight : Scope → PrivilegesRequired → ℕ
privileges_required_weight s privileges_required.None = thousandths 850
privileges_required_weight scope.Unchanged privileges_required.Low = thousandths 620
privileges_required_weight scope.Changed privileges_required.Low = thousandths 680
privileges_required_weight scope.Unchanged privileges_required.High = thousandths 270
privileges_required_weight scope.Changed privileges_required.High = thousandths 500

abbrev pub user_interaction_weight : UserInteraction → ℕ
user_interaction_weight user_interaction.None = thousandths 850
user_interaction_weight user_interaction.Required = thousandths 620

abbrev pub confidentiality_weight : Confidentiality → ℕ
confidentiality_weight confidentiality.None = 0
confidentiality_weight confidentiality.Low = thousandths 220
confidentiality_weight confidentiality.High = thousandths 560

abbrev pub integrity_weight : Integrity → ℕ
integrity_weight integrity.None = 0
integrity_weight integrity.Low = thousandths 220
integrity_weight integrity.High = thousandths 560

abbrev pub availability_weight : Availability → ℕ
availability_weight availability.None = 0
availability_weight availability.Low = thousandths 220
availability_weight availability.High = thousandths 560

-- ---- the steps: section 7.1

-- what is left of confidentiality, integrity and availability, each
abbrev pub kept_confidentiality : Confidentiality → ℕ
kept_confidentiality c = one - confidentiality_weight c

abbrev pub kept_integrity : Integrity → ℕ
kept_integrity i = one - integrity_weight i

abbrev pub kept_availability : Availability → ℕ
kept_availability a = one - availability_weight a

-- step 1, the impact sub-score
abbrev pub iss_of : Confidentiality → Integrity → Availability → ℕ
iss_of c i a = one - mul (mul (kept_confidentiality c) (kept_integrity i)) (kept_availability a)

-- step 2, whether nothing is lost
abbrev pub is_harmless : Confidentiality → Integrity → Availability → Bool
is_harmless confidentiality.None integrity.None availability.None = true
is_harmless c i a = false

-- a number multiplied by a factor as often as a count says
unfoldable pub multiplied : ℕ → ℕ → ℕ → ℕ
multiplied zero x p = p
multiplied (suc n) x p = mul (multiplied n x p) x

-- the base of the fifteenth power, and the fifteenth power with its fourteen floors
abbrev pub power_base : ℕ → ℕ
power_base iss = iss - thousandths 20

abbrev pub power_of : ℕ → ℕ
power_of iss = multiplied 14 (power_base iss) (power_base iss)

-- step 3, the impact of a sub-score
abbrev pub impact_of : Scope → ℕ → ℕ
impact_of scope.Unchanged iss = mul (thousandths 6420) iss
impact_of scope.Changed iss = mul (thousandths 7520) (iss - thousandths 29) - mul (thousandths 3250) (power_of iss)

-- step 4, the exploitability
abbrev pub exploitability_of : Base → ℕ
exploitability_of b =
    mul (mul (mul (mul (thousandths 8220) (attack_vector_weight b.av)) (attack_complexity_weight b.ac))
    (privileges_required_weight b.s b.pr)) (user_interaction_weight b.ui)

-- step 5, the sum, and its bound
abbrev pub sum_of : Scope → ℕ → ℕ
sum_of scope.Unchanged sum = sum
sum_of scope.Changed sum = mul (thousandths 1080) sum

abbrev pub at_most_ten : ℕ → ℕ
at_most_ten sum = min sum (10 * one)

-- step 6: the nearest hundred-thousandths, rounded up to tenths
abbrev pub hundred_thousandths : ℕ → ℕ
hundred_thousandths sum = (sum + 5000000) / 10000000

abbrev pub rounded_up : ℕ → ℕ
rounded_up n = (n + 9999) / 10000

-- the score in tenths
abbrev pub score_tenths_of : Base → ℕ
score_tenths_of b =
    if is_harmless b.c b.i b.a then 0
    else rounded_up (hundred_thousandths (at_most_ten (sum_of b.s (impact_of b.s (iss_of b.c b.i b.a) + exploitability_of b))))

-- ---- the same products without floors

-- no floor loses anything in the products of step 1, in the first products of step 3 and in those of step 4: each is
-- the exact product of its factors
pub record HasExactProducts (b : Base) : Type 0 where
  pub sub_score : (one - iss_of b.c b.i b.a) * one ^ 2
      ≡ kept_confidentiality b.c * kept_integrity b.i * kept_availability b.a
  pub unchanged : mul (thousandths 6420) (iss_of b.c b.i b.a) * one ≡ thousandths 6420 * iss_of b.c b.i b.a
  pub changed : mul (thousandths 7520) (iss_of b.c b.i b.a - thousandths 29) * one
      ≡ thousandths 7520 * (iss_of b.c b.i b.a - thousandths 29)
  pub exploitability : exploitability_of b * one ^ 4
      ≡ thousandths 8220 * attack_vector_weight b.av * attack_complexity_weight b.ac
      * privileges_required_weight b.s b.pr * user_interaction_weight b.ui

-- the fourteen floors of step 3 lose at most fourteen units of the fifteenth power
pub record HasClosePower (iss : ℕ) : Type 0 where
  pub above : power_of iss * one ^ 14 ≤ power_base iss ^ 15
  pub below : power_base iss ^ 15 ≤ (power_of iss + 14) * one ^ 14

-- ---- ratings: section 5

-- the rating of a score in tenths
abbrev pub severity_of : ℕ → Severity
severity_of tenths =
    if tenths == 0 then severity.None
    else if nat_lt tenths 40 then severity.Low
    else if nat_lt tenths 70 then severity.Medium
    else if nat_lt tenths 90 then severity.High
    else severity.Critical

-- the name of a rating
abbrev pub severity_text : Severity → List ℕ
severity_text severity.None = codes "none"
severity_text severity.Low = codes "low"
severity_text severity.Medium = codes "medium"
severity_text severity.High = codes "high"
severity_text severity.Critical = codes "critical"

-- the place of a rating in the order
abbrev pub severity_place : Severity → ℕ
severity_place severity.None = 0
severity_place severity.Low = 1
severity_place severity.Medium = 2
severity_place severity.High = 3
severity_place severity.Critical = 4

abbrev pub severity_cmp : Severity → Severity → Ordering
severity_cmp = on severity_place nat_cmp
