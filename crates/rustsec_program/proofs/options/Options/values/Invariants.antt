use Rattle.std.proofs.Common.{◌≡◌, map, take}
use Rattle.rustsec_program.specs.CheckOptions.{values_of}
use Rattle.rustsec_program.specs.Steps.{item_view}
use Rattle.rustsec_program.proofs.options.Options.values.Given as goal

-- the values among the options so far
abbrev pub invariant-loop-item : goal.invariant-loop-item
invariant-loop-item l = map (λ t. t.now) l.values.items ≡ values_of l.key (map item_view (take l.item-index l.item-items))
