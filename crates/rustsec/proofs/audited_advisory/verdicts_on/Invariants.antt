use Rattle.std.proofs.Common.{◌≡◌, map, take}
use Rattle.semver.specs.Identifiers.{parts_of}
use Rattle.rustsec_versions.specs.acceptance.Lists.{affected}
use Rattle.rustsec.proofs.audited_advisory.verdicts_on.Given as goal

-- the verdicts on the versions so far
abbrev pub invariant-loop-version : goal.invariant-loop-version
invariant-loop-version l = l.verdicts.items ≡ map (affected l.requirements) (map parts_of (take l.version-index l.versions))
