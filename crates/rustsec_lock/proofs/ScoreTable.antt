-- Facts about each combination of values, by a test of all of them.
use Rattle.std.proofs.Common.{◌≡◌, ℕ, ◌+◌, ◌-◌, ◌*◌, ◌^◌, ◌≤◌, ◌&&◌, ◌||◌, Bool, true, false, not, refl, nat_eq, nat_le, eq-eqb, ap, ◌<◌}
use Rattle.std.proofs.lemmas.Bool.{eqb-true, le-leb, leb-true, not-true}
use Rattle.std.specs.Cmp.{first_so, second_so}
use Rattle.rustsec_lock.specs.declared.metrics.AttackComplexity.{AttackComplexity}
use Rattle.rustsec_lock.specs.declared.metrics.AttackComplexity.TheVariants as attack_complexity
use Rattle.rustsec_lock.specs.declared.metrics.AttackVector.{AttackVector}
use Rattle.rustsec_lock.specs.declared.metrics.AttackVector.TheVariants as attack_vector
use Rattle.rustsec_lock.specs.declared.metrics.Availability.{Availability}
use Rattle.rustsec_lock.specs.declared.metrics.Availability.TheVariants as availability
use Rattle.rustsec_lock.specs.declared.metrics.Confidentiality.{Confidentiality}
use Rattle.rustsec_lock.specs.declared.metrics.Confidentiality.TheVariants as confidentiality
use Rattle.rustsec_lock.specs.declared.metrics.Integrity.{Integrity}
use Rattle.rustsec_lock.specs.declared.metrics.Integrity.TheVariants as integrity
use Rattle.rustsec_lock.specs.declared.metrics.PrivilegesRequired.{PrivilegesRequired}
use Rattle.rustsec_lock.specs.declared.metrics.PrivilegesRequired.TheVariants as privileges_required
use Rattle.rustsec_lock.specs.declared.metrics.Scope.{Scope}
use Rattle.rustsec_lock.specs.declared.metrics.Scope.TheVariants as scope
use Rattle.rustsec_lock.specs.declared.metrics.UserInteraction.{UserInteraction}
use Rattle.rustsec_lock.specs.declared.metrics.UserInteraction.TheVariants as user_interaction
use Rattle.rustsec_lock.specs.declared.metrics.Base.{Base}
use Rattle.rustsec_lock.specs.Score.{HasClosePower, HasExactProducts, attack_complexity_weight, attack_vector_weight, is_harmless, iss_of, kept_availability, kept_confidentiality, kept_integrity, mul, multiplied, one, power_base, power_of, privileges_required_weight, thousandths, user_interaction_weight}

abbrev each_confidentiality : (Confidentiality → Bool) → Bool
each_confidentiality test = test confidentiality.None && (test confidentiality.Low && test confidentiality.High)

at_confidentiality : (test : Confidentiality → Bool) → each_confidentiality test ≡ true → (v : Confidentiality) → test v ≡ true
at_confidentiality test h confidentiality.None = first_so (test confidentiality.None) _ h
at_confidentiality test h confidentiality.Low = first_so (test confidentiality.Low) _ (second_so (test confidentiality.None) _ h)
at_confidentiality test h confidentiality.High = second_so (test confidentiality.Low) _ (second_so (test confidentiality.None) _ h)

abbrev each_integrity : (Integrity → Bool) → Bool
each_integrity test = test integrity.None && (test integrity.Low && test integrity.High)

at_integrity : (test : Integrity → Bool) → each_integrity test ≡ true → (v : Integrity) → test v ≡ true
at_integrity test h integrity.None = first_so (test integrity.None) _ h
at_integrity test h integrity.Low = first_so (test integrity.Low) _ (second_so (test integrity.None) _ h)
at_integrity test h integrity.High = second_so (test integrity.Low) _ (second_so (test integrity.None) _ h)

abbrev each_availability : (Availability → Bool) → Bool
each_availability test = test availability.None && (test availability.Low && test availability.High)

at_availability : (test : Availability → Bool) → each_availability test ≡ true → (v : Availability) → test v ≡ true
at_availability test h availability.None = first_so (test availability.None) _ h
at_availability test h availability.Low = first_so (test availability.Low) _ (second_so (test availability.None) _ h)
at_availability test h availability.High = second_so (test availability.Low) _ (second_so (test availability.None) _ h)

abbrev each_attack_vector : (AttackVector → Bool) → Bool
each_attack_vector test = test attack_vector.Network && (test attack_vector.Adjacent && (test attack_vector.Local && test attack_vector.Physical))

at_attack_vector : (test : AttackVector → Bool) → each_attack_vector test ≡ true → (v : AttackVector) → test v ≡ true
at_attack_vector test h attack_vector.Network = first_so (test attack_vector.Network) _ h
at_attack_vector test h attack_vector.Adjacent = first_so (test attack_vector.Adjacent) _ (second_so (test attack_vector.Network) _ h)
at_attack_vector test h attack_vector.Local = first_so (test attack_vector.Local) _ (second_so (test attack_vector.Adjacent) _ (second_so (test attack_vector.Network) _ h))
at_attack_vector test h attack_vector.Physical = second_so (test attack_vector.Local) _ (second_so (test attack_vector.Adjacent) _ (second_so (test attack_vector.Network) _ h))

abbrev each_attack_complexity : (AttackComplexity → Bool) → Bool
each_attack_complexity test = test attack_complexity.Low && test attack_complexity.High

at_attack_complexity : (test : AttackComplexity → Bool) → each_attack_complexity test ≡ true → (v : AttackComplexity) → test v ≡ true
at_attack_complexity test h attack_complexity.Low = first_so (test attack_complexity.Low) _ h
at_attack_complexity test h attack_complexity.High = second_so (test attack_complexity.Low) _ h

abbrev each_scope : (Scope → Bool) → Bool
each_scope test = test scope.Unchanged && test scope.Changed

at_scope : (test : Scope → Bool) → each_scope test ≡ true → (v : Scope) → test v ≡ true
at_scope test h scope.Unchanged = first_so (test scope.Unchanged) _ h
at_scope test h scope.Changed = second_so (test scope.Unchanged) _ h

abbrev each_privileges_required : (PrivilegesRequired → Bool) → Bool
each_privileges_required test = test privileges_required.None && (test privileges_required.Low && test privileges_required.High)

at_privileges_required : (test : PrivilegesRequired → Bool) → each_privileges_required test ≡ true → (v : PrivilegesRequired) → test v ≡ true
at_privileges_required test h privileges_required.None = first_so (test privileges_required.None) _ h
at_privileges_required test h privileges_required.Low = first_so (test privileges_required.Low) _ (second_so (test privileges_required.None) _ h)
at_privileges_required test h privileges_required.High = second_so (test privileges_required.Low) _ (second_so (test privileges_required.None) _ h)

abbrev each_user_interaction : (UserInteraction → Bool) → Bool
each_user_interaction test = test user_interaction.None && test user_interaction.Required

at_user_interaction : (test : UserInteraction → Bool) → each_user_interaction test ≡ true → (v : UserInteraction) → test v ≡ true
at_user_interaction test h user_interaction.None = first_so (test user_interaction.None) _ h
at_user_interaction test h user_interaction.Required = second_so (test user_interaction.None) _ h

-- ---- each loss of confidentiality, integrity and availability

abbrev each_loss : (Confidentiality → Integrity → Availability → Bool) → Bool
each_loss test = each_confidentiality (λ c. each_integrity (λ i. each_availability (λ a. test c i a)))

at_loss : (test : Confidentiality → Integrity → Availability → Bool) → each_loss test ≡ true
    → (c : Confidentiality) (i : Integrity) (a : Availability) → test c i a ≡ true
at_loss test h c i a =
    at_availability (λ z. test c i z) (at_integrity (λ y. each_availability (λ z. test c y z))
    (at_confidentiality (λ x. each_integrity (λ y. each_availability (λ z. test x y z))) h c) i) a

either : (s t : Bool) → (s || t) ≡ true → s ≡ false → t ≡ true
either true t h e = cc e
either false t h e = h

-- only the sub-score without any loss is 0, and any other one is at least 0.22
pub harmless_without_score : (c : Confidentiality) (i : Integrity) (a : Availability) → iss_of c i a ≡ 0 → is_harmless c i a ≡ true
harmless_without_score c i a e =
    let whole = at_loss (λ x y z. not (nat_eq (iss_of x y z) 0) || is_harmless x y z) refl c i a in
    either (not (nat_eq (iss_of c i a) 0)) _ whole (ap not (eq-eqb (iss_of c i a) 0 e))

pub harmful_with_score : (c : Confidentiality) (i : Integrity) (a : Availability) → 0 < iss_of c i a → is_harmless c i a ≡ false
harmful_with_score c i a h =
    let whole = at_loss (λ x y z. not (nat_le 1 (iss_of x y z)) || not (is_harmless x y z)) refl c i a in
    not-true _ (either (not (nat_le 1 (iss_of c i a))) _ whole (ap not (le-leb 1 (iss_of c i a) h)))

pub low_score : (c : Confidentiality) (i : Integrity) (a : Availability) → 0 < iss_of c i a → thousandths 220 ≤ iss_of c i a
low_score c i a h =
    let whole = at_loss (λ x y z. not (nat_le 1 (iss_of x y z)) || nat_le (thousandths 220) (iss_of x y z)) refl c i a in
    leb-true (thousandths 220) (iss_of c i a) (either (not (nat_le 1 (iss_of c i a))) _ whole (ap not (le-leb 1 (iss_of c i a) h)))

pub positive_impact : (c : Confidentiality) (i : Integrity) (a : Availability)
    → mul (thousandths 3250) (power_of (iss_of c i a)) ≤ mul (thousandths 7520) (iss_of c i a - thousandths 29)
unfolding multiplied
positive_impact c i a =
    leb-true _ _ (at_loss (λ x y z. nat_le (mul (thousandths 3250) (power_of (iss_of x y z))) (mul (thousandths 7520) (iss_of x y z - thousandths 29))) refl c i a)

pub close_power : (c : Confidentiality) (i : Integrity) (a : Availability) → HasClosePower (iss_of c i a)
unfolding multiplied
close_power c i a = record {
  above = leb-true _ _ (at_loss (λ x y z. nat_le (power_of (iss_of x y z) * one ^ 14) (power_base (iss_of x y z) ^ 15)) refl c i a);
  below = leb-true _ _ (at_loss (λ x y z. nat_le (power_base (iss_of x y z) ^ 15) ((power_of (iss_of x y z) + 14) * one ^ 14)) refl c i a);
}

-- ---- each way to exploit

abbrev steps : AttackVector → AttackComplexity → Scope → PrivilegesRequired → UserInteraction → ℕ
steps av ac s pr ui =
    mul (mul (mul (mul (thousandths 8220) (attack_vector_weight av)) (attack_complexity_weight ac))
    (privileges_required_weight s pr)) (user_interaction_weight ui)

abbrev product : AttackVector → AttackComplexity → Scope → PrivilegesRequired → UserInteraction → ℕ
product av ac s pr ui =
    thousandths 8220 * attack_vector_weight av * attack_complexity_weight ac * privileges_required_weight s pr * user_interaction_weight ui

abbrev is_product : AttackVector → AttackComplexity → Scope → PrivilegesRequired → UserInteraction → Bool
is_product av ac s pr ui = nat_eq (steps av ac s pr ui * one ^ 4) (product av ac s pr ui)

each_way : each_attack_vector (λ av. each_attack_complexity (λ ac. each_scope (λ s. each_privileges_required (λ pr. each_user_interaction (λ ui. is_product av ac s pr ui))))) ≡ true
each_way = refl

exact_way : (av : AttackVector) (ac : AttackComplexity) (s : Scope) (pr : PrivilegesRequired) (ui : UserInteraction) → is_product av ac s pr ui ≡ true
exact_way av ac s pr ui =
    at_user_interaction (λ z. is_product av ac s pr z)
    (at_privileges_required (λ y. each_user_interaction (λ z. is_product av ac s y z))
    (at_scope (λ x. each_privileges_required (λ y. each_user_interaction (λ z. is_product av ac x y z)))
    (at_attack_complexity (λ w. each_scope (λ x. each_privileges_required (λ y. each_user_interaction (λ z. is_product av w x y z))))
    (at_attack_vector (λ v. each_attack_complexity (λ w. each_scope (λ x. each_privileges_required (λ y. each_user_interaction (λ z. is_product v w x y z)))))
    each_way av) ac) s) pr) ui

pub exact_products : (b : Base) → HasExactProducts b
exact_products b = record {
  sub_score = eqb-true _ _ (at_loss (λ x y z. nat_eq ((one - iss_of x y z) * one ^ 2) (kept_confidentiality x * kept_integrity y * kept_availability z)) refl b.c b.i b.a);
  unchanged = eqb-true _ _ (at_loss (λ x y z. nat_eq (mul (thousandths 6420) (iss_of x y z) * one) (thousandths 6420 * iss_of x y z)) refl b.c b.i b.a);
  changed = eqb-true _ _ (at_loss (λ x y z. nat_eq (mul (thousandths 7520) (iss_of x y z - thousandths 29) * one) (thousandths 7520 * (iss_of x y z - thousandths 29))) refl b.c b.i b.a);
  exploitability = eqb-true _ _ (exact_way b.av b.ac b.s b.pr b.ui);
}
