use Rattle.std.proofs.Common.{◌≡◌, Some, option_map, take}
use Rattle.rustsec_policy.specs.Policies.{ids_on}
use Rattle.rustsec_policy.proofs.ignored.ids_on.Given as goal

-- the IDs of the entries so far
abbrev pub invariant-loop-entry : goal.invariant-loop-entry
invariant-loop-entry l = ids_on (option_map (λ d. d.now) l.today) (take l.entry-index l.entries) ≡ Some l.ids
