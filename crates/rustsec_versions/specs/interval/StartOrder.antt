-- The order of starts: a missing one first, then by version, an inclusive one before an exclusive one. Intervals are
-- sorted by it. It only helps proofs: public contracts do not depend on it.
use Rattle.std.specs.Prelude.{ℕ}
use Rattle.std.specs.Cmp.{IsTotalOrder, nat_cmp_total, on_total, then_total}
use Rattle.std.specs.Ordering.{nat_cmp, on, then_cmp}
use Rattle.std.specs.declared.cmp.Ordering.{Ordering}
use Rattle.semver.specs.OrderLaws.{build_total, pre_total}
use Rattle.semver.specs.Parse.{Parts}
use Rattle.rustsec_versions.specs.Equality.{bound_version}
use Rattle.rustsec_versions.specs.interval.Interval.{Endpoint, exclusive, inclusive, unbounded}
use Rattle.rustsec_versions.specs.order.Precedence.{version_order}

abbrev pub start_class : Endpoint → ℕ
start_class unbounded = 0
start_class (inclusive v) = 1
start_class (exclusive v) = 1

abbrev pub start_kind : Endpoint → ℕ
start_kind unbounded = 0
start_kind (inclusive v) = 0
start_kind (exclusive v) = 1

abbrev pub start_order : Endpoint → Endpoint → Ordering
start_order = then_cmp (on start_class nat_cmp) (then_cmp (on bound_version version_order) (on start_kind nat_cmp))

pub version_order_total : IsTotalOrder version_order
version_order_total = then_total (on_total (λ (v : Parts). v.0) nat_cmp_total) (then_total (on_total (λ (v : Parts). v.1) nat_cmp_total)
    (then_total (on_total (λ (v : Parts). v.2) nat_cmp_total) (then_total (on_total (λ (v : Parts). v.3) pre_total) (on_total (λ (v : Parts). v.4) build_total))))

pub start_order_total : IsTotalOrder start_order
start_order_total = then_total (on_total start_class nat_cmp_total) (then_total (on_total bound_version version_order_total) (on_total start_kind nat_cmp_total))
