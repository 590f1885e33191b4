use Rattle.std.proofs.Common.{◌≡◌, take, Some}
use Rattle.toml.specs.View.{items_view}
use Rattle.rustsec_values.specs.Reading.{read_all}
use Rattle.rustsec_toml.specs.Fields.{list_of}
use Rattle.rustsec_policy.specs.Policies.{ignored_of}
use Rattle.rustsec_policy.proofs.ignored.all_ignored.Given as goal

-- the entries so far are read
abbrev pub invariant-loop-value : goal.invariant-loop-value
invariant-loop-value l = read_all ignored_of (list_of (items_view (take l.value-index l.array.items))) ≡ Some l.ignored
