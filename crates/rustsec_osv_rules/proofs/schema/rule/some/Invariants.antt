use Rattle.std.proofs.Common.{◌≡◌, false, take}
use Rattle.serde_json.specs.View.{items_view}
use Rattle.rustsec_osv_rules.specs.schema.Values.{some}
use Rattle.rustsec_osv_rules.proofs.schema.rule.some.Given as goal

-- none of the values so far keeps the rule
abbrev pub invariant-loop-value : goal.invariant-loop-value
invariant-loop-value g l = some g.R.Rule.rule (items_view (take l.value-index l.values.items)) ≡ false
