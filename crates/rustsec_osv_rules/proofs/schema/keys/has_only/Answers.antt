use Rattle.std.proofs.Common.{◌≡◌, ◌∙◌, ap, map, rules}
use Rattle.std.specs.List.{list_all}
use Rattle.std.specs.Map.Iter.{deref_pair}
use Rattle.std.proofs.lemmas.Map.Iter.{iter_end}
use Rattle.rustsec_osv_rules.proofs.schema.EntryKeys.{is_key, only_view}
use Rattle.rustsec_osv_rules.proofs.schema.keys.has_only.Goals as goal

pub returns : goal.returns
returns c =
    let e : map deref_pair c.loop-key.yielded ≡ c.args.fields.now.entries = search (rules, iter_end) in
    c.loop-key.invariant ∙ (ap (λ es. list_all is_key es) e ∙ only_view c.args.fields.now.entries)
