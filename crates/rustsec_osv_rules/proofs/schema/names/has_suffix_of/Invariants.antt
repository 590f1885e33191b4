use Rattle.std.proofs.Common.{◌≡◌, false, map, take}
use Rattle.std.specs.List.{list_any}
use Rattle.rustsec_osv_rules.specs.schema.Texts.{is_suffixed}
use Rattle.rustsec_osv_rules.proofs.schema.names.has_suffix_of.Given as goal

-- the text is not one of the names so far, with or without a suffix
abbrev pub invariant-loop-name : goal.invariant-loop-name
invariant-loop-name l = list_any (is_suffixed l.text) (map (λ n. n.now) (take l.name-index l.names)) ≡ false
