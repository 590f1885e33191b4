-- The letters of the values of the base metrics: CVSS 3.1, section 6, table 15.
use Rattle.std.specs.Prelude.{ℕ, List, [], ◌∷◌, codes}
use Rattle.rustsec_lock.specs.declared.metrics.AttackComplexity.{AttackComplexity}
use Rattle.rustsec_lock.specs.declared.metrics.AttackComplexity.TheVariants as attack_complexity
use Rattle.rustsec_lock.specs.declared.metrics.AttackVector.{AttackVector}
use Rattle.rustsec_lock.specs.declared.metrics.AttackVector.TheVariants as attack_vector
use Rattle.rustsec_lock.specs.declared.metrics.Availability.{Availability}
use Rattle.rustsec_lock.specs.declared.metrics.Availability.TheVariants as availability
use Rattle.rustsec_lock.specs.declared.metrics.Confidentiality.{Confidentiality}
use Rattle.rustsec_lock.specs.declared.metrics.Confidentiality.TheVariants as confidentiality
use Rattle.rustsec_lock.specs.declared.metrics.Integrity.{Integrity}
use Rattle.rustsec_lock.specs.declared.metrics.Integrity.TheVariants as integrity
use Rattle.rustsec_lock.specs.declared.metrics.PrivilegesRequired.{PrivilegesRequired}
use Rattle.rustsec_lock.specs.declared.metrics.PrivilegesRequired.TheVariants as privileges_required
use Rattle.rustsec_lock.specs.declared.metrics.Scope.{Scope}
use Rattle.rustsec_lock.specs.declared.metrics.Scope.TheVariants as scope
use Rattle.rustsec_lock.specs.declared.metrics.UserInteraction.{UserInteraction}
use Rattle.rustsec_lock.specs.declared.metrics.UserInteraction.TheVariants as user_interaction

-- ---- the letter of a value: the first of its name

abbrev pub attack_vector_letter : AttackVector → List ℕ
attack_vector_letter attack_vector.Network = codes "N"
attack_vector_letter attack_vector.Adjacent = codes "A"
attack_vector_letter attack_vector.Local = codes "L"
attack_vector_letter attack_vector.Physical = codes "P"

abbrev pub attack_complexity_letter : AttackComplexity → List ℕ
attack_complexity_letter attack_complexity.Low = codes "L"
attack_complexity_letter attack_complexity.High = codes "H"

abbrev pub privileges_required_letter : PrivilegesRequired → List ℕ
privileges_required_letter privileges_required.None = codes "N"
privileges_required_letter privileges_required.Low = codes "L"
privileges_required_letter privileges_required.High = codes "H"

abbrev pub user_interaction_letter : UserInteraction → List ℕ
user_interaction_letter user_interaction.None = codes "N"
user_interaction_letter user_interaction.Required = codes "R"

abbrev pub scope_letter : Scope → List ℕ
scope_letter scope.Unchanged = codes "U"
scope_letter scope.Changed = codes "C"

abbrev pub confidentiality_letter : Confidentiality → List ℕ
confidentiality_letter confidentiality.None = codes "N"
confidentiality_letter confidentiality.Low = codes "L"
confidentiality_letter confidentiality.High = codes "H"

abbrev pub integrity_letter : Integrity → List ℕ
integrity_letter integrity.None = codes "N"
integrity_letter integrity.Low = codes "L"
integrity_letter integrity.High = codes "H"

abbrev pub availability_letter : Availability → List ℕ
availability_letter availability.None = codes "N"
availability_letter availability.Low = codes "L"
availability_letter availability.High = codes "H"

-- ---- the values of a metric

abbrev pub attack_vector_values : List AttackVector
attack_vector_values = attack_vector.Network ∷ attack_vector.Adjacent ∷ attack_vector.Local ∷ attack_vector.Physical ∷ []

abbrev pub attack_complexity_values : List AttackComplexity
attack_complexity_values = attack_complexity.Low ∷ attack_complexity.High ∷ []

abbrev pub privileges_required_values : List PrivilegesRequired
privileges_required_values = privileges_required.None ∷ privileges_required.Low ∷ privileges_required.High ∷ []

abbrev pub user_interaction_values : List UserInteraction
user_interaction_values = user_interaction.None ∷ user_interaction.Required ∷ []

abbrev pub scope_values : List Scope
scope_values = scope.Unchanged ∷ scope.Changed ∷ []

abbrev pub confidentiality_values : List Confidentiality
confidentiality_values = confidentiality.None ∷ confidentiality.Low ∷ confidentiality.High ∷ []

abbrev pub integrity_values : List Integrity
integrity_values = integrity.None ∷ integrity.Low ∷ integrity.High ∷ []

abbrev pub availability_values : List Availability
availability_values = availability.None ∷ availability.Low ∷ availability.High ∷ []
