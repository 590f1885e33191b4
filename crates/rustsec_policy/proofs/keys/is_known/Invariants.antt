use Rattle.std.proofs.Common.{◌≡◌, drop, map}
use Rattle.rustsec_policy.specs.Keys.{is_one_of}
use Rattle.rustsec_policy.proofs.keys.is_known.Given as goal

-- the keys that are left decide
abbrev pub invariant-loop-known : goal.invariant-loop-known
invariant-loop-known g l = is_one_of g.K.Keys.known l.key ≡ is_one_of (map (λ k. k.now) (drop l.known-index l.known-items)) l.key
