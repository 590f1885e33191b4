-- The vector that base metrics print has the form of a vector of CVSS 3.
use Rattle.std.proofs.Common.{◌≡◌, ◌∙◌, ◌++◌, ◌⊎◌, ℕ, false, true, List, ◌∷◌, codes, inl, inr, refl}
use Rattle.std.proofs.lemmas.Bool.{or_left}
use Rattle.std.specs.Fmt.{decimal, digits}
use Rattle.rustsec_lock.specs.Cvss.{base_text}
use Rattle.rustsec_lock.specs.Metrics.{attack_complexity_letter, attack_vector_letter, availability_letter, confidentiality_letter, integrity_letter, privileges_required_letter, scope_letter, user_interaction_letter}
use Rattle.rustsec_lock.specs.declared.metrics.Base.{Base}
use Rattle.rustsec_lock.specs.declared.metrics.AttackComplexity.{AttackComplexity}
use Rattle.rustsec_lock.specs.declared.metrics.AttackComplexity.TheVariants as attack_complexity
use Rattle.rustsec_lock.specs.declared.metrics.AttackVector.{AttackVector}
use Rattle.rustsec_lock.specs.declared.metrics.AttackVector.TheVariants as attack_vector
use Rattle.rustsec_lock.specs.declared.metrics.Availability.{Availability}
use Rattle.rustsec_lock.specs.declared.metrics.Availability.TheVariants as availability
use Rattle.rustsec_lock.specs.declared.metrics.Confidentiality.{Confidentiality}
use Rattle.rustsec_lock.specs.declared.metrics.Confidentiality.TheVariants as confidentiality
use Rattle.rustsec_lock.specs.declared.metrics.Integrity.{Integrity}
use Rattle.rustsec_lock.specs.declared.metrics.Integrity.TheVariants as integrity
use Rattle.rustsec_lock.specs.declared.metrics.PrivilegesRequired.{PrivilegesRequired}
use Rattle.rustsec_lock.specs.declared.metrics.PrivilegesRequired.TheVariants as privileges_required
use Rattle.rustsec_lock.specs.declared.metrics.Scope.{Scope}
use Rattle.rustsec_lock.specs.declared.metrics.Scope.TheVariants as scope
use Rattle.rustsec_lock.specs.declared.metrics.UserInteraction.{UserInteraction}
use Rattle.rustsec_lock.specs.declared.metrics.UserInteraction.TheVariants as user_interaction
use Rattle.rustsec_osv.specs.DocumentCodec.{severity_tree}
use Rattle.rustsec_osv.specs.declared.severity.OsvSeverity.TheVariants as severity
use Rattle.rustsec_osv_rules.specs.schema.Groups.{is_severity}
use Rattle.rustsec_osv_rules.specs.schema.VectorScan.{are_metrics_3, base_rows_3, is_vector_3}

-- ---- a metric before a slash changes nothing

attack_vector-first : (v : AttackVector) (rest : List ℕ) → are_metrics_3 (codes "AV:" ++ (attack_vector_letter v ++ (47 ∷ rest))) ≡ are_metrics_3 rest
unfolding base_rows_3
attack_vector-first attack_vector.Network rest = refl
attack_vector-first attack_vector.Adjacent rest = refl
attack_vector-first attack_vector.Local rest = refl
attack_vector-first attack_vector.Physical rest = refl

attack_complexity-first : (v : AttackComplexity) (rest : List ℕ) → are_metrics_3 (codes "AC:" ++ (attack_complexity_letter v ++ (47 ∷ rest))) ≡ are_metrics_3 rest
unfolding base_rows_3
attack_complexity-first attack_complexity.Low rest = refl
attack_complexity-first attack_complexity.High rest = refl

privileges_required-first : (v : PrivilegesRequired) (rest : List ℕ) → are_metrics_3 (codes "PR:" ++ (privileges_required_letter v ++ (47 ∷ rest))) ≡ are_metrics_3 rest
unfolding base_rows_3
privileges_required-first privileges_required.None rest = refl
privileges_required-first privileges_required.Low rest = refl
privileges_required-first privileges_required.High rest = refl

user_interaction-first : (v : UserInteraction) (rest : List ℕ) → are_metrics_3 (codes "UI:" ++ (user_interaction_letter v ++ (47 ∷ rest))) ≡ are_metrics_3 rest
unfolding base_rows_3
user_interaction-first user_interaction.None rest = refl
user_interaction-first user_interaction.Required rest = refl

scope-first : (v : Scope) (rest : List ℕ) → are_metrics_3 (codes "S:" ++ (scope_letter v ++ (47 ∷ rest))) ≡ are_metrics_3 rest
unfolding base_rows_3
scope-first scope.Unchanged rest = refl
scope-first scope.Changed rest = refl

confidentiality-first : (v : Confidentiality) (rest : List ℕ) → are_metrics_3 (codes "C:" ++ (confidentiality_letter v ++ (47 ∷ rest))) ≡ are_metrics_3 rest
unfolding base_rows_3
confidentiality-first confidentiality.None rest = refl
confidentiality-first confidentiality.Low rest = refl
confidentiality-first confidentiality.High rest = refl

integrity-first : (v : Integrity) (rest : List ℕ) → are_metrics_3 (codes "I:" ++ (integrity_letter v ++ (47 ∷ rest))) ≡ are_metrics_3 rest
unfolding base_rows_3
integrity-first integrity.None rest = refl
integrity-first integrity.Low rest = refl
integrity-first integrity.High rest = refl

availability-last : (v : Availability) → are_metrics_3 (codes "A:" ++ availability_letter v) ≡ true
unfolding base_rows_3
availability-last availability.None = refl
availability-last availability.Low = refl
availability-last availability.High = refl

-- ---- all metrics

abbrev from_availability : Base → List ℕ
from_availability b = codes "A:" ++ availability_letter b.a

abbrev from_integrity : Base → List ℕ
from_integrity b = codes "I:" ++ (integrity_letter b.i ++ (47 ∷ from_availability b))

abbrev from_confidentiality : Base → List ℕ
from_confidentiality b = codes "C:" ++ (confidentiality_letter b.c ++ (47 ∷ from_integrity b))

abbrev from_scope : Base → List ℕ
from_scope b = codes "S:" ++ (scope_letter b.s ++ (47 ∷ from_confidentiality b))

abbrev from_user_interaction : Base → List ℕ
from_user_interaction b = codes "UI:" ++ (user_interaction_letter b.ui ++ (47 ∷ from_scope b))

abbrev from_privileges_required : Base → List ℕ
from_privileges_required b = codes "PR:" ++ (privileges_required_letter b.pr ++ (47 ∷ from_user_interaction b))

abbrev from_attack_complexity : Base → List ℕ
from_attack_complexity b = codes "AC:" ++ (attack_complexity_letter b.ac ++ (47 ∷ from_privileges_required b))

abbrev from_attack_vector : Base → List ℕ
from_attack_vector b = codes "AV:" ++ (attack_vector_letter b.av ++ (47 ∷ from_attack_complexity b))

metrics-kept : (b : Base) → are_metrics_3 (from_attack_vector b) ≡ true
metrics-kept b =
    attack_vector-first b.av (from_attack_complexity b)
    ∙ (attack_complexity-first b.ac (from_privileges_required b)
    ∙ (privileges_required-first b.pr (from_user_interaction b)
    ∙ (user_interaction-first b.ui (from_scope b)
    ∙ (scope-first b.s (from_confidentiality b)
    ∙ (confidentiality-first b.c (from_integrity b)
    ∙ (integrity-first b.i (from_availability b)
    ∙ (availability-last b.a)))))))

vector-of : (b : Base) (m : ℕ) → (m ≡ 0) ⊎ (m ≡ 1) → is_vector_3 (codes "CVSS:3." ++ (decimal m ++ (47 ∷ from_attack_vector b))) ≡ true
unfolding digits
vector-of b m (inl e) = rw e (or_left (are_metrics_3 (from_attack_vector b)) false (metrics-kept b))
vector-of b m (inr e) = rw e (metrics-kept b)

score-kept : (b : Base) → (b.minor_version ≡ 0) ⊎ (b.minor_version ≡ 1) → is_vector_3 (base_text b) ≡ true
score-kept b h = vector-of b b.minor_version h

-- a severity with such a vector
pub vector-kept : (b : Base) → (b.minor_version ≡ 0) ⊎ (b.minor_version ≡ 1) → is_severity (severity_tree (severity.CVSS_V3 b)) ≡ true
vector-kept b h = or_left (is_vector_3 (base_text b)) false (score-kept b h)
