-- The words of a reason, with what ignores an ignored advisory.
use Rattle.std.specs.Prelude.{◌++◌, ℕ, List, [], Option, Some, None, codes}
use Rattle.rustsec_policy.specs.declared.ignored.Ignored.{Ignored}
use Rattle.rustsec_explain.specs.Pair.{ExplainedPair}
use Rattle.rustsec_explain.specs.Wording.{reason_text}
use Rattle.rustsec_explain.specs.declared.reason.Reason.{Reason}
use Rattle.rustsec_explain.specs.declared.reason.Reason.TheVariants as reason
use Rattle.rustsec_explain_output.specs.Rules.{RulesValue, entry_of}

-- a last day and a reason, which may be missing
abbrev pub until_words : Option (List ℕ) → List ℕ
until_words None = []
until_words (Some until) = codes " until " ++ until

abbrev pub note_words : Option (List ℕ) → List ℕ
note_words None = []
note_words (Some note) = codes ": " ++ note

-- an entry of the policy, by its last day and its reason
abbrev pub by_policy : Ignored → List ℕ
by_policy e = codes " by the policy" ++ (until_words e.until ++ note_words e.reason)

-- what ignores an advisory: an entry of the policy, or else the command line
abbrev pub ignored_by : Option Ignored → List ℕ
ignored_by None = codes " by the command line"
ignored_by (Some e) = by_policy e

-- what ignores the advisory, if that is the reason
abbrev pub entry_words : Option Ignored → Reason → List ℕ
entry_words entry reason.Ignored = ignored_by entry
entry_words entry other = []

-- the words of a reason of a pair
abbrev pub reason_words : RulesValue → ExplainedPair → Reason → List ℕ
reason_words rules e r = reason_text rules.settings e.by e.of r ++ entry_words (entry_of rules e) r
