use Rattle.std.proofs.Common.{◌≡◌, false, map, nat_eq, take}
use Rattle.std.specs.List.{list_any, starts_with}
use Rattle.rustsec_osv_rules.proofs.schema.names.begins_with_one_of.Given as goal

-- the text begins with none of the prefixes so far
abbrev pub invariant-loop-prefix : goal.invariant-loop-prefix
invariant-loop-prefix l = list_any (starts_with nat_eq l.text) (map (λ p. p.now) (take l.prefix-index l.prefixes)) ≡ false
