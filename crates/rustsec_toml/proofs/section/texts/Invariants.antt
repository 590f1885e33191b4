use Rattle.std.proofs.Common.{◌≡◌, take, Some}
use Rattle.toml.specs.View.{items_view}
use Rattle.rustsec_values.specs.Reading.{read_all}
use Rattle.rustsec_toml.specs.Fields.{list_of, text}
use Rattle.rustsec_toml.proofs.section.texts.Given as goal

abbrev pub invariant-loop-value : goal.invariant-loop-value
invariant-loop-value g l = read_all (text g.T.FromText.reads) (list_of (items_view (take l.value-index l.array.items))) ≡ Some l.read.items
