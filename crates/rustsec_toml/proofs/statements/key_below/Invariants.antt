use Rattle.std.proofs.Common.{◌≢◌, None}
use Rattle.rustsec_toml.specs.Places.{StartsKey}
use denote.Shadow.{shadow}
use denote.Text.{Utf8}
use Rattle.rustsec_toml.proofs.statements.key_below.Given as goal

-- a key begins there, if one begins at the first one
abbrev pub invariant-loop : goal.invariant-loop
invariant-loop l = shadow (Utf8 l.key) × ((l.fn.reached ≢ None → StartsKey l.fn.key) → StartsKey l.key)
