use Rattle.std.proofs.Common.{◌≡◌, take, true}
use Rattle.std.specs.Cmp.Lexicographic.{pointwise}
use Rattle.rustsec_osv_rules.specs.schema.TimeScan.{fits}
use Rattle.rustsec_osv_rules.proofs.schema.time.has_shape.Given as goal

-- the bytes so far are of the shape
abbrev pub invariant-loop-i : goal.invariant-loop-i
invariant-loop-i l = pointwise fits (take l.i l.shape) (take l.i l.text) ≡ true
