use Rattle.std.proofs.Common.{◌≡◌, ◌≤◌, ◌==◌, count_by, take}
use Rattle.rustsec_osv.proofs.codec.event.dots.Given as goal

abbrev pub invariant-loop-byte : goal.invariant-loop-byte
invariant-loop-byte l = record {
  counted : l.dots ≡ count_by (λ b. b == 46) (take l.byte-index l.bytes);
  within : l.dots ≤ l.byte-index;
}
