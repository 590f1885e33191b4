-- No valid version is below `0.0.0-0`.
use Rattle.std.proofs.Common.{◌≡◌, ℕ, true, arith}
use Rattle.std.proofs.lemmas.Bool.Decides.{nat_tests}
use Rattle.std.specs.Ordering.{is_le, nat_cmp}
use Rattle.semver.specs.Parse.{Parts}
use Rattle.rustsec_versions.specs.order.Precedence.{IsVersion, is_at_most, least_of}
use Rattle.rustsec_versions.proofs.lemmas.order.LeastAbove.{le-then, zero-pre}

zero-number : (n : ℕ) → is_le (nat_cmp 0 n) ≡ true
zero-number n = grind (arith, nat_tests)

pub least-at_most : (v : Parts) → IsVersion v → is_at_most (least_of 0 0 0) v ≡ true
least-at_most v valid =
    le-then _ _ (zero-number v.0) (le-then _ _ (zero-number v.1) (le-then _ _ (zero-number v.2) (zero-pre v.3 valid.pre)))
