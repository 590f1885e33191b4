use Rattle.std.proofs.lemmas.Result.{err_from_is_err_and}
use Rattle.rustsec_lock.specs.Lockfile.{package_of}
use Rattle.rustsec_toml.proofs.Arrays.{items_start, items_stop}
use Rattle.rustsec_lock.proofs.Arrays.{array-grown}
use Rattle.rustsec_values.proofs.Refusals.{refused_by}
use Rattle.rustsec_lock.proofs.lockfile.packages_in.Goals as goal

pub loop-value-init : goal.loop-value-init
loop-value-init c = rw c.new-packages.ensures (items_start package_of)

pub returns-in_err-add_package-clause-err : goal.returns-in_err-add_package-clause-err
returns-in_err-add_package-clause-err c =
    let same = c.deref-value-items.ensures.value in
    let p = err_from_is_err_and c.from_residual.result c.from_residual.ensures.1 in
    let stop = items_stop package_of _ c.loop-value.value-index c.value-item.result (rw same at c.loop-value-test.true) (rw same at c.value-item.is) in
    rw (p.1, p.2) (refused_by _ c.in_err-add_package.field-0.0 stop c.in_err-add_package.ensures.err)

pub loop-value-preserved : goal.loop-value-preserved
loop-value-preserved c =
    let same = c.deref-value-items.ensures.value in
    array-grown package_of _ _ c.value-item.result _ _ (rw same at c.loop-value-test.true) (rw same at c.value-item.is) c.loop-value.invariant c.in_ok-add_package.ensures.ok
