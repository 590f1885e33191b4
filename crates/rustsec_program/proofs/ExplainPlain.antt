-- The tree of an explanation has no float, so that its text is known.
use Rattle.std.proofs.Common.{List, Option, None, Some, refl}
use Rattle.semver.specs.Parse.{Held}
use Rattle.rustsec_lock.specs.Package.{PackageValue}
use Rattle.rustsec_policy.specs.declared.ignored.Ignored.{Ignored}
use Rattle.rustsec_explain.specs.Pair.{ExplainedPair}
use Rattle.rustsec_explain.specs.declared.reason.Reason.{Reason}
use Rattle.rustsec_explain.specs.declared.reason.Reason.TheVariants as reason
use Rattle.rustsec_explain_output.specs.ExplainTree.{entry_entries, entry_tree, explain_tree, further_entries, package_entries, package_tree, pair_entries, pair_tree, reason_tree, requirement_tree}
use Rattle.rustsec_explain_output.specs.Rules.{RulesValue, entry_of}
use Rattle.rustsec_report.proofs.PlainTrees.{AllPlain, Plain, list-plain, object-plain, optional-plain}

requirement-plain : (r : Option (List Held)) → Plain (requirement_tree r)
requirement-plain None = refl
requirement-plain (Some r) = refl

entry-plain : (e : Ignored) → Plain (entry_tree e)
unfolding entry_tree
entry-plain e = object-plain (entry_entries e) (refl, (optional-plain _ (λ x. refl) e.reason, (optional-plain _ (λ x. refl) e.until, tt)))

further-plain : (rules : RulesValue) (e : ExplainedPair) (r : Reason) → AllPlain (further_entries rules e r)
further-plain rules e reason.WithoutSource = tt
further-plain rules e reason.NotAudited = tt
further-plain rules e reason.OtherCollection = tt
further-plain rules e reason.OtherPackage = tt
further-plain rules e (reason.HeldByPatched place) = (requirement-plain _, tt)
further-plain rules e (reason.HeldByUnaffected place) = (requirement-plain _, tt)
further-plain rules e reason.OtherSource = tt
further-plain rules e reason.BelowThreshold = tt
further-plain rules e reason.OtherArchitecture = tt
further-plain rules e reason.OtherSystem = tt
further-plain rules e reason.Withdrawn = tt
further-plain rules e reason.KindNotWanted = tt
further-plain rules e reason.KindWithoutWarnings = tt
further-plain rules e reason.Ignored = (optional-plain entry_tree entry-plain (entry_of rules e), tt)

reason-plain : (rules : RulesValue) (e : ExplainedPair) (r : Reason) → Plain (reason_tree rules e r)
unfolding reason_tree
reason-plain rules e r = object-plain _ (refl, (refl, further-plain rules e r))

package-plain : (p : PackageValue) → Plain (package_tree p)
unfolding package_tree
package-plain p = object-plain (package_entries p) (refl, (optional-plain _ (λ x. refl) p.source, (refl, tt)))

pair-plain : (rules : RulesValue) (e : ExplainedPair) → Plain (pair_tree rules e)
unfolding pair_tree
pair-plain rules e =
    object-plain (pair_entries rules e) (refl, (refl, (package-plain e.of, (list-plain (reason_tree rules e) (reason-plain rules e) e.reasons, tt))))

pub explain-plain : (rules : RulesValue) (pairs : List ExplainedPair) → Plain (explain_tree rules pairs)
explain-plain rules pairs = list-plain (pair_tree rules) (pair-plain rules) pairs
