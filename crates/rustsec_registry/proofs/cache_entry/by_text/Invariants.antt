use Rattle.std.proofs.Common.{◌≡◌, ℕ, List}
use Rattle.rustsec_registry.specs.Lookups.{at, listed}
use Rattle.rustsec_registry.proofs.cache_entry.by_text.Given as goal

-- the entries so far are those of the versions so far
abbrev pub invariant-loop-entry : goal.invariant-loop-entry
invariant-loop-entry l = (text : List ℕ) → at text l.entries ≡ listed text l.yielded
