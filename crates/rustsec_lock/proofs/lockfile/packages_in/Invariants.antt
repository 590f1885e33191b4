use Rattle.std.proofs.Common.{◌≡◌, take, Some}
use Rattle.toml.specs.View.{items_view}
use Rattle.rustsec_values.specs.Reading.{read_all}
use Rattle.rustsec_toml.specs.Fields.{list_of}
use Rattle.rustsec_lock.specs.Lockfile.{package_of}
use Rattle.rustsec_lock.proofs.lockfile.packages_in.Given as goal

abbrev pub invariant-loop-value : goal.invariant-loop-value
invariant-loop-value l = read_all package_of (list_of (items_view (take l.value-index l.array.items))) ≡ Some l.packages
