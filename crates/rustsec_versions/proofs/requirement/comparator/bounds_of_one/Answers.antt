use Rattle.semver.specs.Identifiers.{comparator_view, parts_of}
use Rattle.rustsec_versions.proofs.lemmas.requirement.Stated.{stated_one}
use Rattle.rustsec_versions.proofs.requirement.comparator.bounds_of_one.Goals as goal

pub bounds_by_op-requires : goal.bounds_by_op-requires
bounds_by_op-requires c = (stated_one (comparator_view c.args.c.now) (parts_of c.in_ok-version.version) c.in_ok-version.ensures.ok).1

pub returns-clause-ok : goal.returns-clause-ok
returns-clause-ok c =
    rw ((stated_one (comparator_view c.args.c.now) (parts_of c.in_ok-version.version) c.in_ok-version.ensures.ok).0) c.bounds_by_op.ensures.ok

pub returns-clause-err : goal.returns-clause-err
returns-clause-err c =
    rw ((stated_one (comparator_view c.args.c.now) (parts_of c.in_ok-version.version) c.in_ok-version.ensures.ok).0) c.bounds_by_op.ensures.err
