use Rattle.std.proofs.Common.{◌≡◌, map, take, Some}
use Rattle.toml.specs.View.{items_view}
use Rattle.rustsec_values.specs.Reading.{read_all}
use Rattle.rustsec_versions.specs.Views.{comparators_of}
use Rattle.rustsec_toml.specs.Fields.{list_of, text}
use Rattle.rustsec_advisory.specs.Requirements.{requirement_of}
use Rattle.rustsec_advisory.proofs.requirements.requirements_in.Given as goal

abbrev pub invariant-loop-value : goal.invariant-loop-value
invariant-loop-value l = read_all (text requirement_of) (list_of (items_view (take l.value-index l.array.items))) ≡ Some (map comparators_of l.read.items)
