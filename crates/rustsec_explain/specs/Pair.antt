-- A pair of a package and an advisory, with reasons.
use Rattle.std.specs.Prelude.{List}
use Rattle.rustsec_lock.specs.Package.{PackageValue}
use Rattle.rustsec_advisory.specs.declared.advisory.Advisory.{Advisory}
use Rattle.rustsec_explain.specs.declared.reason.Reason.{Reason}

pub record ExplainedPair : Type 0 where
  -- the advisory
  pub by : Advisory
  -- the package
  pub of : PackageValue
  -- why the pair is not a finding
  pub reasons : List Reason
