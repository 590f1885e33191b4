use Rattle.rustsec_graph.proofs.Lists.{packages-is}
use Rattle.toml.specs.View.{table_view, view}
use Rattle.rustsec_graph.proofs.entries.packages_in.Goals as goal

pub returns-in-Some-as_array : goal.returns-in-Some-as_array
returns-in-Some-as_array c =
    packages-is (table_view c.args.table.now) (view c.in-Some.value.now) c.in-Some-as_array.array.now.items c.as_slice.result.now
    c.in-Some.ensures c.in-Some-as_array.ensures c.as_slice.ensures.value
