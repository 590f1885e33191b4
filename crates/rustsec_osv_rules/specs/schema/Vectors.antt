-- The scores of severities as the OSV schema asks for them (`$defs.severity`): vectors of CVSS, and the priorities of
-- Ubuntu. A vector is made of fields with slashes between them: a metric, a colon and a value (CVSS 2, complete guide,
-- section 2.4; CVSS 3.1, specification, section 6; CVSS 4.0, specification, section 7). It carries meaning: public contracts
-- cite it.
use Rattle.std.specs.Prelude.{◌≡◌, ◌⊎◌, ℕ, List, [], ◌∷◌, ◌++◌, All, Any, Contains, Option, Some, None, ⊤, codes, filter_map}
use Rattle.std.specs.List.{AllZip, join_with_byte}
use Rattle.rustsec_osv_rules.specs.schema.Metrics.{Metric, base_metrics_4, metrics_2, metrics_3, other_metrics_4}
use Rattle.rustsec_osv_rules.specs.schema.Names.{priorities}

-- a field: "the abbreviated metric name, followed by a `:` (colon), then the abbreviated metric value"
pub record IsField (m : Metric) (field : List ℕ) : Type 0 where
  pub value : List ℕ
  pub is_listed : Contains m.values value
  pub is : field ≡ m.name ++ (58 ∷ value)

-- "using the `/` (slash) character to separate the metrics"
abbrev pub joined : List (List ℕ) → List ℕ
joined fields = join_with_byte 47 fields

-- ---- CVSS 2 and 3

-- one or more fields of these metrics. FIRST asks that each base metric is there and no metric twice, for CVSS 2 in the
-- order of the table; OSV's schema does not
pub record AreFields (metrics : List Metric) (text : List ℕ) : Type 0 where
  pub first : List ℕ
  pub others : List (List ℕ)
  pub each : All (λ field. Any (λ m. IsField m field) metrics) (first ∷ others)
  pub is : text ≡ joined (first ∷ others)

-- a vector of CVSS 2
abbrev pub IsVector2 : List ℕ → Type 0
IsVector2 text = AreFields metrics_2 text

-- a vector of CVSS 3: "the label `CVSS:` and a numeric representation of the current version", then fields
pub record IsVector3 (text : List ℕ) : Type 0 where
  pub label : List ℕ
  pub is_label : (label ≡ codes "CVSS:3.0") ⊎ (label ≡ codes "CVSS:3.1")
  pub fields : List ℕ
  pub are_fields : AreFields metrics_3 fields
  pub is : text ≡ joined (label ∷ fields ∷ [])

-- ---- CVSS 4

-- the field of a metric that may be left out
abbrev pub IsFieldIfAny : Metric → Option (List ℕ) → Type 0
IsFieldIfAny m None = ⊤
IsFieldIfAny m (Some field) = IsField m field

-- a vector of CVSS 4: the label, then the fields in the order of the table, "every other ordering is invalid". Each base
-- metric is there; each other metric is there once, or is left out
pub record IsVector4 (text : List ℕ) : Type 0 where
  pub base : List (List ℕ)
  pub are_base : AllZip IsField base_metrics_4 base
  pub others : List (Option (List ℕ))
  pub are_others : AllZip IsFieldIfAny other_metrics_4 others
  pub is : text ≡ joined (codes "CVSS:4.0" ∷ (base ++ filter_map (λ field. field) others))

-- ---- the score of a type

abbrev pub IsScore : List ℕ → List ℕ → Type 0
IsScore kind score =
    ((kind ≡ codes "CVSS_V2") × IsVector2 score) ⊎ (((kind ≡ codes "CVSS_V3") × IsVector3 score)
    ⊎ (((kind ≡ codes "CVSS_V4") × IsVector4 score) ⊎ ((kind ≡ codes "Ubuntu") × Contains priorities score)))
