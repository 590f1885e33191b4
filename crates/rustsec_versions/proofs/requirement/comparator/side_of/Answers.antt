use Rattle.std.proofs.Common.{refl}
use Rattle.semver.specs.Identifiers.{comparator_view, parts_of}
use Rattle.rustsec_versions.proofs.lemmas.requirement.Stated.{only_if-Some, stated_one}
use Rattle.rustsec_versions.proofs.requirement.comparator.side_of.Goals as goal

pub side_by_op-requires : goal.side_by_op-requires
side_by_op-requires c = (stated_one (comparator_view c.args.c.now) (parts_of c.in_ok-version.version) c.in_ok-version.ensures.ok).1

pub returns-clause-ok : goal.returns-clause-ok
returns-clause-ok c =
    let valid = only_if-Some _ _ _ c.in_ok-version.ensures.ok in
    rw (valid.0, c.side_by_op.ensures) refl
