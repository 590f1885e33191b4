-- The metrics of CVSS 2, 3 and 4, with the values of each, in the order of the standards' tables. It carries meaning: public
-- contracts cite it.
use Rattle.std.specs.Prelude.{◌==◌, ℕ, List, [], ◌∷◌, codes}
use Rattle.std.specs.List.{slice_split}

-- a metric: the abbreviation of its name, and those of its values
pub record Metric : Type 0 where
  pub name : List ℕ
  pub values : List (List ℕ)

-- a metric with these values, which are given with spaces between them
abbrev pub metric : List ℕ → List ℕ → Metric
metric name values = record { name = name; values = slice_split (λ b. b == 32) values }

-- ---- CVSS 2 (the complete guide, section 2.4)

unfoldable pub metrics_2 : List Metric
metrics_2 =
    metric (codes "AV") (codes "L A N") ∷ metric (codes "AC") (codes "H M L") ∷ metric (codes "Au") (codes "M S N") ∷ metric (codes "C") (codes "N P C")
    ∷ metric (codes "I") (codes "N P C") ∷ metric (codes "A") (codes "N P C") ∷ metric (codes "E") (codes "U POC F H ND")
    ∷ metric (codes "RL") (codes "OF TF W U ND") ∷ metric (codes "RC") (codes "UC UR C ND") ∷ metric (codes "CDP") (codes "N L LM MH H ND")
    ∷ metric (codes "TD") (codes "N L M H ND") ∷ metric (codes "CR") (codes "L M H ND") ∷ metric (codes "IR") (codes "L M H ND")
    ∷ metric (codes "AR") (codes "L M H ND") ∷ []

-- ---- CVSS 3.0 and 3.1 (specification, section 6)

unfoldable pub metrics_3 : List Metric
metrics_3 =
    metric (codes "AV") (codes "N A L P") ∷ metric (codes "AC") (codes "L H") ∷ metric (codes "PR") (codes "N L H") ∷ metric (codes "UI") (codes "N R")
    ∷ metric (codes "S") (codes "U C") ∷ metric (codes "C") (codes "H L N") ∷ metric (codes "I") (codes "H L N") ∷ metric (codes "A") (codes "H L N")
    ∷ metric (codes "E") (codes "X H F P U") ∷ metric (codes "RL") (codes "X U W T O") ∷ metric (codes "RC") (codes "X C R U")
    ∷ metric (codes "CR") (codes "X H M L") ∷ metric (codes "IR") (codes "X H M L") ∷ metric (codes "AR") (codes "X H M L")
    ∷ metric (codes "MAV") (codes "X N A L P") ∷ metric (codes "MAC") (codes "X L H") ∷ metric (codes "MPR") (codes "X N L H")
    ∷ metric (codes "MUI") (codes "X N R") ∷ metric (codes "MS") (codes "X U C") ∷ metric (codes "MC") (codes "X N L H")
    ∷ metric (codes "MI") (codes "X N L H") ∷ metric (codes "MA") (codes "X N L H") ∷ []

-- ---- CVSS 4.0 (specification, section 7): the base metrics, and the threat, environmental and supplemental ones

unfoldable pub base_metrics_4 : List Metric
base_metrics_4 =
    metric (codes "AV") (codes "N A L P") ∷ metric (codes "AC") (codes "L H") ∷ metric (codes "AT") (codes "N P") ∷ metric (codes "PR") (codes "N L H")
    ∷ metric (codes "UI") (codes "N P A") ∷ metric (codes "VC") (codes "H L N") ∷ metric (codes "VI") (codes "H L N") ∷ metric (codes "VA") (codes "H L N")
    ∷ metric (codes "SC") (codes "H L N") ∷ metric (codes "SI") (codes "H L N") ∷ metric (codes "SA") (codes "H L N") ∷ []

unfoldable pub other_metrics_4 : List Metric
other_metrics_4 =
    metric (codes "E") (codes "X A P U") ∷ metric (codes "CR") (codes "X H M L") ∷ metric (codes "IR") (codes "X H M L") ∷ metric (codes "AR") (codes "X H M L")
    ∷ metric (codes "MAV") (codes "X N A L P") ∷ metric (codes "MAC") (codes "X L H") ∷ metric (codes "MAT") (codes "X N P")
    ∷ metric (codes "MPR") (codes "X N L H") ∷ metric (codes "MUI") (codes "X N P A") ∷ metric (codes "MVC") (codes "X N L H")
    ∷ metric (codes "MVI") (codes "X N L H") ∷ metric (codes "MVA") (codes "X N L H") ∷ metric (codes "MSC") (codes "X N L H")
    ∷ metric (codes "MSI") (codes "X N L H S") ∷ metric (codes "MSA") (codes "X N L H S") ∷ metric (codes "S") (codes "X N P")
    ∷ metric (codes "AU") (codes "X N Y") ∷ metric (codes "R") (codes "X A U I") ∷ metric (codes "V") (codes "X D C")
    ∷ metric (codes "RE") (codes "X L M H") ∷ metric (codes "U") (codes "X Clear Green Amber Red") ∷ []
