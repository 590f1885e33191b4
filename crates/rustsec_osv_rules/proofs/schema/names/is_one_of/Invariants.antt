use Rattle.std.proofs.Common.{◌≡◌, false, map, take}
use Rattle.std.specs.List.{list_any}
use Rattle.std.specs.Str.{bytes_eq}
use Rattle.rustsec_osv_rules.proofs.schema.names.is_one_of.Given as goal

-- the text is not one of the names so far
abbrev pub invariant-loop-name : goal.invariant-loop-name
invariant-loop-name l = list_any (bytes_eq l.text) (map (λ n. n.now) (take l.name-index l.names)) ≡ false
