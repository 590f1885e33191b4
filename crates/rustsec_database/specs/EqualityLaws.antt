-- `==` of vulnerabilities holds exactly between the same values.
use Rattle.std.specs.Prelude.{◌≡◌}
use Rattle.std.specs.Bool.{Decides}
use Rattle.std.proofs.Common.{ap}
use Rattle.rustsec_values.specs.Equality.{option_decides}
use Rattle.rustsec_versions.specs.EqualityLaws.{lists_decides}
use Rattle.rustsec_lock.specs.Package.{package_decides}
use Rattle.rustsec_advisory.specs.EqualityLaws.{affected_decides, both_decide, decides_as, metadata_decides}
use Rattle.rustsec_advisory.specs.contracts.affected.AffectedPartialEq.TheImpl.{ghosts as affected_equality}
use Rattle.rustsec_database.specs.contracts.vulnerability.VulnerabilityPartialEq.TheImpl.{ghosts as vulnerability_equality}
use Rattle.rustsec_database.specs.declared.vulnerability.Vulnerability.{Vulnerability}

pub vulnerability_decides : (x y : Vulnerability) → Decides (vulnerability_equality.eq x y) (x ≡ y)
vulnerability_decides x y =
    decides_as _ (λ p i. record { advisory = p.0 i; versions = p.1.0 i; affected = p.1.1.0 i; «package» = p.1.1.1 i })
    (λ e. (
      ap (λ (v : Vulnerability). v.advisory) e,
      (
        ap (λ (v : Vulnerability). v.versions) e,
        (ap (λ (v : Vulnerability). v.affected) e, ap (λ (v : Vulnerability). v.«package») e),
      ),
    ))
    (both_decide _ _ (metadata_decides x.advisory y.advisory) (both_decide _ _ (lists_decides x.versions y.versions)
    (both_decide _ _ (option_decides affected_equality.eq affected_decides x.affected y.affected) (package_decides x.«package» y.«package»))))
