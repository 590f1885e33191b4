-- The JSON list of an explanation: an object for each pair.
use Rattle.std.specs.Prelude.{◌==◌, ℕ, Bool, List, [], ◌∷◌, Option, Some, None, codes, length, slice_get}
use Rattle.semver.specs.Identifiers.{parts_text}
use Rattle.semver.specs.Parse.{Held}
use Rattle.serde_json.specs.Data.{Data, boolean, null, string}
use Rattle.rustsec_versions.specs.requirement.RequirementText.{requirement_text}
use Rattle.rustsec_lock.specs.Package.{PackageValue}
use Rattle.rustsec_lock.specs.Source.{source_text}
use Rattle.rustsec_json.specs.Trees.{list_tree, optional_tree, text_tree}
use Rattle.rustsec_policy.specs.declared.ignored.Ignored.{Ignored}
use Rattle.rustsec_report.specs.Trees.{Entry, object_of}
use Rattle.rustsec_explain.specs.Pair.{ExplainedPair}
use Rattle.rustsec_explain.specs.declared.reason.Reason.{Reason}
use Rattle.rustsec_explain.specs.declared.reason.Reason.TheVariants as reason
use Rattle.rustsec_explain_output.specs.ReasonWords.{reason_words}
use Rattle.rustsec_explain_output.specs.Rules.{RulesValue, entry_of}

-- the name of a reason
abbrev pub reason_name : Reason → List ℕ
reason_name reason.WithoutSource = codes "without-source"
reason_name reason.NotAudited = codes "not-audited"
reason_name reason.OtherCollection = codes "other-collection"
reason_name reason.OtherPackage = codes "other-package"
reason_name (reason.HeldByPatched place) = codes "held-by-patched"
reason_name (reason.HeldByUnaffected place) = codes "held-by-unaffected"
reason_name reason.OtherSource = codes "other-source"
reason_name reason.BelowThreshold = codes "below-threshold"
reason_name reason.OtherArchitecture = codes "other-architecture"
reason_name reason.OtherSystem = codes "other-system"
reason_name reason.Withdrawn = codes "withdrawn"
reason_name reason.KindNotWanted = codes "kind-not-wanted"
reason_name reason.KindWithoutWarnings = codes "kind-without-warnings"
reason_name reason.Ignored = codes "ignored"

-- a requirement by its text, or null if it is missing
abbrev pub requirement_tree : Option (List Held) → Data
requirement_tree None = null
requirement_tree (Some r) = string (requirement_text r)

-- an entry of a policy: its ID, and its reason and its last day, which may be missing
abbrev pub entry_entries : Ignored → List Entry
entry_entries e =
    (codes "id", string e.id.text)
    ∷ (codes "reason", optional_tree text_tree e.reason)
    ∷ (codes "until", optional_tree text_tree e.until)
    ∷ []

unfoldable pub entry_tree : Ignored → Data
entry_tree e = object_of (entry_entries e)

-- what some reasons have beside their words: the requirement that holds the version, by its place in its list; the entry
-- that ignores the advisory, or null if the command line does
abbrev pub further_entries : RulesValue → ExplainedPair → Reason → List Entry
further_entries rules e (reason.HeldByPatched place) = (codes "requirement", requirement_tree (slice_get e.by.versions.patched place)) ∷ []
further_entries rules e (reason.HeldByUnaffected place) = (codes "requirement", requirement_tree (slice_get e.by.versions.unaffected place)) ∷ []
further_entries rules e reason.Ignored = (codes "entry", optional_tree entry_tree (entry_of rules e)) ∷ []
further_entries rules e other = []

-- a reason of a pair: its name, its words, and what it has beside them
abbrev pub reason_entries : RulesValue → ExplainedPair → Reason → List Entry
reason_entries rules e r =
    (codes "reason", string (reason_name r)) ∷ (codes "text", string (reason_words rules e r)) ∷ further_entries rules e r

unfoldable pub reason_tree : RulesValue → ExplainedPair → Reason → Data
reason_tree rules e r = object_of (reason_entries rules e r)

-- the package of a pair
abbrev pub package_entries : PackageValue → List Entry
package_entries p =
    (codes "name", string p.name)
    ∷ (codes "source", optional_tree (λ x. string (source_text x)) p.source)
    ∷ (codes "version", string (parts_text p.version))
    ∷ []

unfoldable pub package_tree : PackageValue → Data
package_tree p = object_of (package_entries p)

-- a pair is a finding if it has no reason
abbrev pub has_no_reason : ExplainedPair → Bool
has_no_reason e = length e.reasons == 0

abbrev pub pair_entries : RulesValue → ExplainedPair → List Entry
pair_entries rules e =
    (codes "advisory", string e.by.metadata.id.text)
    ∷ (codes "finding", boolean (has_no_reason e))
    ∷ (codes "package", package_tree e.of)
    ∷ (codes "reasons", list_tree (reason_tree rules e) e.reasons)
    ∷ []

unfoldable pub pair_tree : RulesValue → ExplainedPair → Data
pair_tree rules e = object_of (pair_entries rules e)

-- the pairs in order
abbrev pub explain_tree : RulesValue → List ExplainedPair → Data
explain_tree rules pairs = list_tree (pair_tree rules) pairs
