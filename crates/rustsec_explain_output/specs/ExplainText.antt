-- The text of an explanation: a line for each pair.
use Rattle.std.specs.Prelude.{◌++◌, ◌==◌, ℕ, List, [], ◌∷◌, codes, flat_map, if◌then◌else◌, length}
use Rattle.semver.specs.Identifiers.{parts_text}
use Rattle.rustsec_explain.specs.Pair.{ExplainedPair}
use Rattle.rustsec_explain.specs.declared.reason.Reason.{Reason}
use Rattle.rustsec_explain_output.specs.ReasonWords.{reason_words}
use Rattle.rustsec_explain_output.specs.Rules.{RulesValue}
use Rattle.rustsec_values.specs.Shown.{shown}

-- the words of each reason of a pair, after a semicolon
abbrev pub further_words : RulesValue → ExplainedPair → List Reason → List ℕ
further_words rules e rs = flat_map (λ r. codes "; " ++ reason_words rules e r) rs

-- the words of some reasons of a pair; the word `affected` if there is none
abbrev pub told_by : RulesValue → ExplainedPair → List Reason → List ℕ
told_by rules e [] = codes "affected"
told_by rules e (r ∷ rs) = reason_words rules e r ++ further_words rules e rs

-- the name and the version of a package, the ID of an advisory, and the words of the pair's reasons
abbrev pub pair_words : RulesValue → ExplainedPair → List ℕ
pair_words rules e =
    e.of.name ++ (codes " " ++ (parts_text e.of.version ++ (codes " " ++ (e.by.metadata.id.text ++ (codes ": " ++ told_by rules e e.reasons)))))

-- the line of a pair, on which every hidden character is escaped
abbrev pub pair_line : RulesValue → ExplainedPair → List ℕ
pair_line rules e = shown (pair_words rules e) ++ codes "\n"

-- the lines of the pairs in order; without a pair, one line that says so
abbrev pub explain_text : RulesValue → List ExplainedPair → List ℕ
explain_text rules pairs =
    if length pairs == 0 then codes "no pair of a package and an advisory with this name or ID\n"
    else flat_map (pair_line rules) pairs
