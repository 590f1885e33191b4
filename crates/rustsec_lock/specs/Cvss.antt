-- CVSS vectors: CVSS 3.1, section 6. A vector of version 3 is the version and the eight base metrics, in any order,
-- each after a slash; a vector of version 4 is any text after its version.
use Rattle.std.specs.Prelude.{ℕ, ◌==◌, ◌++◌, List, [], ◌∷◌, drop, filter_map, length, nat_eq, Option, Some, None, option_map, if◌then◌else◌, codes}
use Rattle.std.specs.Fmt.{decimal}
use Rattle.std.specs.List.{slice_split, starts_with}
use Rattle.rustsec_values.specs.ClosedTables.{from_name}
use Rattle.rustsec_values.specs.Reading.{◌>>=◌, only_if}
use Rattle.rustsec_lock.specs.declared.cvss.Cvss.{Cvss}
use Rattle.rustsec_lock.specs.declared.cvss.Cvss.TheVariants as cvss
use Rattle.rustsec_lock.specs.declared.metrics.Base.{Base}
use Rattle.rustsec_lock.specs.declared.severity.Severity.{Severity}
use Rattle.rustsec_lock.specs.Metrics.{attack_complexity_letter, attack_complexity_values, attack_vector_letter, attack_vector_values, availability_letter, availability_values, confidentiality_letter, confidentiality_values, integrity_letter, integrity_values, privileges_required_letter, privileges_required_values, scope_letter, scope_values, user_interaction_letter, user_interaction_values}
use Rattle.rustsec_lock.specs.Score.{score_tenths_of, severity_of}

-- the text after a prefix, if it begins with the prefix
abbrev pub after_prefix : List ℕ → List ℕ → Option (List ℕ)
after_prefix beginning text = if starts_with nat_eq text beginning then Some (drop (length beginning) text) else None

-- the member of a list that has exactly one
abbrev pub lone : {A : Type 0} → List A → Option A
lone [] = None
lone (x ∷ []) = Some x
lone (x ∷ y ∷ rest) = None

-- the text after a metric's name in the only part that begins with it
unfoldable pub metric_letter : List ℕ → List (List ℕ) → Option (List ℕ)
metric_letter name parts = lone (filter_map (after_prefix name) parts)

-- the parts of a text between its slashes
abbrev pub parts_of : List ℕ → List (List ℕ)
parts_of text = slice_split (λ b. b == 47) text

-- the value whose letter follows a metric's name in the only part that begins with it
abbrev pub parse_metric : {A : Type 0} → (A → List ℕ) → List A → List ℕ → List (List ℕ) → Option A
parse_metric letter values name parts = metric_letter name parts >>= from_name letter values

-- the base metrics that eight parts give: for each metric exactly one part begins with its name and a colon, and one
-- of its letters follows
abbrev pub metrics_of : ℕ → List (List ℕ) → Option Base
metrics_of minor parts =
    parse_metric attack_vector_letter attack_vector_values (codes "AV:") parts >>= λ av.
    parse_metric attack_complexity_letter attack_complexity_values (codes "AC:") parts >>= λ ac.
    parse_metric privileges_required_letter privileges_required_values (codes "PR:") parts >>= λ pr.
    parse_metric user_interaction_letter user_interaction_values (codes "UI:") parts >>= λ ui.
    parse_metric scope_letter scope_values (codes "S:") parts >>= λ s.
    parse_metric confidentiality_letter confidentiality_values (codes "C:") parts >>= λ c.
    parse_metric integrity_letter integrity_values (codes "I:") parts >>= λ i.
    parse_metric availability_letter availability_values (codes "A:") parts >>= λ a.
    Some (record { minor_version = minor; av = av; ac = ac; pr = pr; ui = ui; s = s; c = c; i = i; a = a })

-- the base metrics of the text after a vector's version
unfoldable pub base_of : ℕ → List ℕ → Option Base
base_of minor text = only_if (length (parts_of text) == 8) (metrics_of minor (parts_of text))

-- the first reading that succeeds
abbrev pub or_else : {A : Type 0} → Option A → Option A → Option A
or_else None other = other
or_else (Some x) other = Some x

-- a vector of version 4, kept as it is
abbrev pub kept_vector : List ℕ → Option Cvss
kept_vector text = option_map (λ rest. cvss.CvssV40 text) (after_prefix (codes "CVSS:4.0/") text)

-- the vector of a text, if it is a vector
abbrev pub cvss_of : List ℕ → Option Cvss
cvss_of text =
    or_else (after_prefix (codes "CVSS:3.0/") text >>= base_of 0 >>= λ b. Some (cvss.CvssV30 b))
    (or_else (after_prefix (codes "CVSS:3.1/") text >>= base_of 1 >>= λ b. Some (cvss.CvssV31 b))
    (kept_vector text))

-- how base metrics print: their version, and the metrics in the standard's order
abbrev pub base_text : Base → List ℕ
base_text b =
    codes "CVSS:3." ++ (decimal b.minor_version
    ++ (codes "/AV:" ++ (attack_vector_letter b.av
    ++ (codes "/AC:" ++ (attack_complexity_letter b.ac
    ++ (codes "/PR:" ++ (privileges_required_letter b.pr
    ++ (codes "/UI:" ++ (user_interaction_letter b.ui
    ++ (codes "/S:" ++ (scope_letter b.s
    ++ (codes "/C:" ++ (confidentiality_letter b.c
    ++ (codes "/I:" ++ (integrity_letter b.i
    ++ (codes "/A:" ++ availability_letter b.a))))))))))))))))

-- how a vector prints
abbrev pub cvss_text : Cvss → List ℕ
cvss_text (cvss.CvssV30 b) = base_text b
cvss_text (cvss.CvssV31 b) = base_text b
cvss_text (cvss.CvssV40 text) = text

-- the rating of a vector; none for version 4
abbrev pub cvss_severity : Cvss → Option Severity
cvss_severity (cvss.CvssV30 b) = Some (severity_of (score_tenths_of b))
cvss_severity (cvss.CvssV31 b) = Some (severity_of (score_tenths_of b))
cvss_severity (cvss.CvssV40 text) = None
