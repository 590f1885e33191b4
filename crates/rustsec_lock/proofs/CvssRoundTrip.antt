-- Parsing the printed text of base metrics gives the same metrics.
use Rattle.std.proofs.Common.{◌≡◌, ◌∙◌, ℕ, ◌==◌, false, List, [], ◌∷◌, ◌++◌, Option, Some, All, refl, ap, codes, rules}
use Rattle.std.proofs.lemmas.List.Splits.{slice_split_at, slice_split_none}
use Rattle.std.specs.Fmt.{digits}
use Rattle.rustsec_values.specs.ClosedTables.{from_name}
use Rattle.rustsec_lock.specs.Cvss.{base_of, base_text, cvss_of, metric_letter, metrics_of, parts_of}
use Rattle.rustsec_lock.specs.Metrics.{attack_complexity_letter, attack_complexity_values, attack_vector_letter, attack_vector_values, availability_letter, availability_values, confidentiality_letter, confidentiality_values, integrity_letter, integrity_values, privileges_required_letter, privileges_required_values, scope_letter, scope_values, user_interaction_letter, user_interaction_values}
use Rattle.rustsec_lock.specs.declared.cvss.Cvss.TheVariants as cvss
use Rattle.rustsec_lock.specs.declared.metrics.Base.{Base}
use Rattle.rustsec_lock.specs.declared.metrics.AttackComplexity.{AttackComplexity}
use Rattle.rustsec_lock.specs.declared.metrics.AttackComplexity.TheVariants as attack_complexity
use Rattle.rustsec_lock.specs.declared.metrics.AttackVector.{AttackVector}
use Rattle.rustsec_lock.specs.declared.metrics.AttackVector.TheVariants as attack_vector
use Rattle.rustsec_lock.specs.declared.metrics.Availability.{Availability}
use Rattle.rustsec_lock.specs.declared.metrics.Availability.TheVariants as availability
use Rattle.rustsec_lock.specs.declared.metrics.Confidentiality.{Confidentiality}
use Rattle.rustsec_lock.specs.declared.metrics.Confidentiality.TheVariants as confidentiality
use Rattle.rustsec_lock.specs.declared.metrics.Integrity.{Integrity}
use Rattle.rustsec_lock.specs.declared.metrics.Integrity.TheVariants as integrity
use Rattle.rustsec_lock.specs.declared.metrics.PrivilegesRequired.{PrivilegesRequired}
use Rattle.rustsec_lock.specs.declared.metrics.PrivilegesRequired.TheVariants as privileges_required
use Rattle.rustsec_lock.specs.declared.metrics.Scope.{Scope}
use Rattle.rustsec_lock.specs.declared.metrics.Scope.TheVariants as scope
use Rattle.rustsec_lock.specs.declared.metrics.UserInteraction.{UserInteraction}
use Rattle.rustsec_lock.specs.declared.metrics.UserInteraction.TheVariants as user_interaction

-- ---- the value of a letter, if any

abbrev attack_vector_of : List ℕ → Option AttackVector
attack_vector_of = from_name attack_vector_letter attack_vector_values

abbrev attack_complexity_of : List ℕ → Option AttackComplexity
attack_complexity_of = from_name attack_complexity_letter attack_complexity_values

abbrev privileges_required_of : List ℕ → Option PrivilegesRequired
privileges_required_of = from_name privileges_required_letter privileges_required_values

abbrev user_interaction_of : List ℕ → Option UserInteraction
user_interaction_of = from_name user_interaction_letter user_interaction_values

abbrev scope_of : List ℕ → Option Scope
scope_of = from_name scope_letter scope_values

abbrev confidentiality_of : List ℕ → Option Confidentiality
confidentiality_of = from_name confidentiality_letter confidentiality_values

abbrev integrity_of : List ℕ → Option Integrity
integrity_of = from_name integrity_letter integrity_values

abbrev availability_of : List ℕ → Option Availability
availability_of = from_name availability_letter availability_values

-- ---- the texts of metrics

-- no byte is a slash
abbrev HasNoSlash : List ℕ → Type 0
HasNoSlash text = All (λ b. (b == 47) ≡ false) text

read_attack_vector : (v : AttackVector) → attack_vector_of (attack_vector_letter v) ≡ Some v
read_attack_vector attack_vector.Network = refl
read_attack_vector attack_vector.Adjacent = refl
read_attack_vector attack_vector.Local = refl
read_attack_vector attack_vector.Physical = refl

part_attack_vector : (v : AttackVector) → HasNoSlash (codes "AV:" ++ attack_vector_letter v)
part_attack_vector attack_vector.Network = search rules
part_attack_vector attack_vector.Adjacent = search rules
part_attack_vector attack_vector.Local = search rules
part_attack_vector attack_vector.Physical = search rules

read_attack_complexity : (v : AttackComplexity) → attack_complexity_of (attack_complexity_letter v) ≡ Some v
read_attack_complexity attack_complexity.Low = refl
read_attack_complexity attack_complexity.High = refl

part_attack_complexity : (v : AttackComplexity) → HasNoSlash (codes "AC:" ++ attack_complexity_letter v)
part_attack_complexity attack_complexity.Low = search rules
part_attack_complexity attack_complexity.High = search rules

read_privileges_required : (v : PrivilegesRequired) → privileges_required_of (privileges_required_letter v) ≡ Some v
read_privileges_required privileges_required.None = refl
read_privileges_required privileges_required.Low = refl
read_privileges_required privileges_required.High = refl

part_privileges_required : (v : PrivilegesRequired) → HasNoSlash (codes "PR:" ++ privileges_required_letter v)
part_privileges_required privileges_required.None = search rules
part_privileges_required privileges_required.Low = search rules
part_privileges_required privileges_required.High = search rules

read_user_interaction : (v : UserInteraction) → user_interaction_of (user_interaction_letter v) ≡ Some v
read_user_interaction user_interaction.None = refl
read_user_interaction user_interaction.Required = refl

part_user_interaction : (v : UserInteraction) → HasNoSlash (codes "UI:" ++ user_interaction_letter v)
part_user_interaction user_interaction.None = search rules
part_user_interaction user_interaction.Required = search rules

read_scope : (v : Scope) → scope_of (scope_letter v) ≡ Some v
read_scope scope.Unchanged = refl
read_scope scope.Changed = refl

part_scope : (v : Scope) → HasNoSlash (codes "S:" ++ scope_letter v)
part_scope scope.Unchanged = search rules
part_scope scope.Changed = search rules

read_confidentiality : (v : Confidentiality) → confidentiality_of (confidentiality_letter v) ≡ Some v
read_confidentiality confidentiality.None = refl
read_confidentiality confidentiality.Low = refl
read_confidentiality confidentiality.High = refl

part_confidentiality : (v : Confidentiality) → HasNoSlash (codes "C:" ++ confidentiality_letter v)
part_confidentiality confidentiality.None = search rules
part_confidentiality confidentiality.Low = search rules
part_confidentiality confidentiality.High = search rules

read_integrity : (v : Integrity) → integrity_of (integrity_letter v) ≡ Some v
read_integrity integrity.None = refl
read_integrity integrity.Low = refl
read_integrity integrity.High = refl

part_integrity : (v : Integrity) → HasNoSlash (codes "I:" ++ integrity_letter v)
part_integrity integrity.None = search rules
part_integrity integrity.Low = search rules
part_integrity integrity.High = search rules

read_availability : (v : Availability) → availability_of (availability_letter v) ≡ Some v
read_availability availability.None = refl
read_availability availability.Low = refl
read_availability availability.High = refl

part_availability : (v : Availability) → HasNoSlash (codes "A:" ++ availability_letter v)
part_availability availability.None = search rules
part_availability availability.Low = search rules
part_availability availability.High = search rules

-- the parts of a vector, in the standard's order
abbrev metric_parts : Base → List (List ℕ)
metric_parts b = (codes "AV:" ++ attack_vector_letter b.av) ∷ (codes "AC:" ++ attack_complexity_letter b.ac) ∷ (codes "PR:" ++ privileges_required_letter b.pr) ∷ (codes "UI:" ++ user_interaction_letter b.ui) ∷ (codes "S:" ++ scope_letter b.s) ∷ (codes "C:" ++ confidentiality_letter b.c) ∷ (codes "I:" ++ integrity_letter b.i) ∷ (codes "A:" ++ availability_letter b.a) ∷ []

abbrev from_availability : Base → List ℕ
from_availability b = codes "A:" ++ availability_letter b.a

abbrev from_integrity : Base → List ℕ
from_integrity b = (codes "I:" ++ integrity_letter b.i) ++ (47 ∷ from_availability b)

abbrev from_confidentiality : Base → List ℕ
from_confidentiality b = (codes "C:" ++ confidentiality_letter b.c) ++ (47 ∷ from_integrity b)

abbrev from_scope : Base → List ℕ
from_scope b = (codes "S:" ++ scope_letter b.s) ++ (47 ∷ from_confidentiality b)

abbrev from_user_interaction : Base → List ℕ
from_user_interaction b = (codes "UI:" ++ user_interaction_letter b.ui) ++ (47 ∷ from_scope b)

abbrev from_privileges_required : Base → List ℕ
from_privileges_required b = (codes "PR:" ++ privileges_required_letter b.pr) ++ (47 ∷ from_user_interaction b)

abbrev from_attack_complexity : Base → List ℕ
from_attack_complexity b = (codes "AC:" ++ attack_complexity_letter b.ac) ++ (47 ∷ from_privileges_required b)

abbrev from_attack_vector : Base → List ℕ
from_attack_vector b = (codes "AV:" ++ attack_vector_letter b.av) ++ (47 ∷ from_attack_complexity b)

printed_parts : (b : Base) → parts_of (from_attack_vector b) ≡ metric_parts b
printed_parts b =
    slice_split_at (λ x. x == 47) (codes "AV:" ++ attack_vector_letter b.av) 47 (from_attack_complexity b) (part_attack_vector b.av) refl
    ∙ ap (λ ps. (codes "AV:" ++ attack_vector_letter b.av) ∷ ps) (
    slice_split_at (λ x. x == 47) (codes "AC:" ++ attack_complexity_letter b.ac) 47 (from_privileges_required b) (part_attack_complexity b.ac) refl
    ∙ ap (λ ps. (codes "AC:" ++ attack_complexity_letter b.ac) ∷ ps) (
    slice_split_at (λ x. x == 47) (codes "PR:" ++ privileges_required_letter b.pr) 47 (from_user_interaction b) (part_privileges_required b.pr) refl
    ∙ ap (λ ps. (codes "PR:" ++ privileges_required_letter b.pr) ∷ ps) (
    slice_split_at (λ x. x == 47) (codes "UI:" ++ user_interaction_letter b.ui) 47 (from_scope b) (part_user_interaction b.ui) refl
    ∙ ap (λ ps. (codes "UI:" ++ user_interaction_letter b.ui) ∷ ps) (
    slice_split_at (λ x. x == 47) (codes "S:" ++ scope_letter b.s) 47 (from_confidentiality b) (part_scope b.s) refl
    ∙ ap (λ ps. (codes "S:" ++ scope_letter b.s) ∷ ps) (
    slice_split_at (λ x. x == 47) (codes "C:" ++ confidentiality_letter b.c) 47 (from_integrity b) (part_confidentiality b.c) refl
    ∙ ap (λ ps. (codes "C:" ++ confidentiality_letter b.c) ∷ ps) (
    slice_split_at (λ x. x == 47) (codes "I:" ++ integrity_letter b.i) 47 (from_availability b) (part_integrity b.i) refl
    ∙ ap (λ ps. (codes "I:" ++ integrity_letter b.i) ∷ ps) (
    slice_split_none (λ x. x == 47) (codes "A:" ++ availability_letter b.a) (part_availability b.a))))))))

metrics_again : (b : Base) → metrics_of b.minor_version (metric_parts b) ≡ Some b
unfolding metric_letter
metrics_again b = rw (read_attack_vector b.av, read_attack_complexity b.ac, read_privileges_required b.pr, read_user_interaction b.ui, read_scope b.s, read_confidentiality b.c, read_integrity b.i, read_availability b.a) refl

base_again : (b : Base) → base_of b.minor_version (from_attack_vector b) ≡ Some b
unfolding base_of
base_again b = rw (printed_parts b) (metrics_again b)

pub again_0 : (b : Base) → b.minor_version ≡ 0 → cvss_of (base_text b) ≡ Some (cvss.CvssV30 b)
unfolding digits
again_0 b e = rw (e, rw e at (base_again b)) refl

pub again_1 : (b : Base) → b.minor_version ≡ 1 → cvss_of (base_text b) ≡ Some (cvss.CvssV31 b)
unfolding digits
again_1 b e = rw (e, rw e at (base_again b)) refl
