use Rattle.std.proofs.Common.{◌≡◌, take, true}
use Rattle.serde_json.specs.View.{items_view}
use Rattle.rustsec_osv_rules.specs.schema.Values.{every}
use Rattle.rustsec_osv_rules.proofs.schema.rule.every.Given as goal

-- each value so far keeps the rule
abbrev pub invariant-loop-value : goal.invariant-loop-value
invariant-loop-value g l = every g.R.Rule.rule (items_view (take l.value-index l.values.items)) ≡ true
