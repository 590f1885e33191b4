use Rattle.semver.specs.Identifiers.{comparator_view}
use Rattle.rustsec_versions.proofs.lemmas.requirement.Stated.{base_version-there}
use Rattle.rustsec_versions.proofs.requirement.comparator.base_version.Goals as goal

pub returns-clause-ok : goal.returns-clause-ok
returns-clause-ok c =
    let fit = rw (c.unwrap_or-minor.ensures, c.unwrap_or-patch.ensures) at c.version_of.ensures.fit in
    let parts = rw (c.unwrap_or-minor.ensures, c.unwrap_or-patch.ensures) at c.version_of.ensures.parts in
    rw parts (base_version-there (comparator_view c.args.c.now) _ fit c.in_ok-pre.ensures.ok)
