use Rattle.std.proofs.Common.{◌≡◌}
use Rattle.toml.specs.View.{members_view}
use Rattle.rustsec_policy.specs.Keys.{has_only}
use Rattle.rustsec_policy.proofs.keys.expect_keys.Given as goal

-- the keys that are left decide
abbrev pub invariant-loop-key : goal.invariant-loop-key
invariant-loop-key g l = has_only g.K.Keys.known (members_view l.key-iterator) ≡ has_only g.K.Keys.known (members_view l.section.table.now.entries)
