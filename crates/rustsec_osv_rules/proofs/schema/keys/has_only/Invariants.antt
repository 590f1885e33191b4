use Rattle.std.proofs.Common.{◌≡◌, map}
use Rattle.std.specs.List.{list_all}
use Rattle.std.specs.Map.Iter.{deref_pair}
use Rattle.rustsec_osv_rules.proofs.schema.EntryKeys.{is_key}
use Rattle.rustsec_osv_rules.proofs.schema.keys.has_only.Given as goal

-- whether each key so far is one of the schema
abbrev pub invariant-loop-key : goal.invariant-loop-key
invariant-loop-key l = l.all ≡ list_all is_key (map deref_pair l.yielded)
