-- Equal lockfiles: those with equal packages in the same order. No public contract depends on this file; the law says that
-- equality is that of values.
use Rattle.std.specs.Prelude.{◌≡◌}
use Rattle.std.specs.Bool.{Decides}
use Rattle.std.specs.Cmp.Lexicographic.{pointwise, pointwise_decides}
use Rattle.std.proofs.Common.{ap}
use Rattle.rustsec_lock.specs.Package.{package_decides, package_eq}
use Rattle.rustsec_lock.specs.declared.lockfile.Lockfile.{Lockfile}

pub lockfile_decides : (x y : Lockfile) → Decides (pointwise package_eq x.packages y.packages) (x ≡ y)
lockfile_decides x y =
    let packages = pointwise_decides package_decides x.packages y.packages in
    (λ h. ap (λ ps. record { packages = ps }) (packages.0 h), λ e. packages.1 (ap (λ (l : Lockfile). l.packages) e))
