use Rattle.std.proofs.Common.{sym}
use Rattle.std.specs.List.{filter}
use Rattle.rustsec_graph.specs.Entries.{is_local_at}
use Rattle.rustsec_graph.proofs.Lists.{only-none, only-some}
use Rattle.rustsec_graph.proofs.entries.only_local_among.Goals as goal

pub returns-in-Some : goal.returns-in-Some
returns-in-Some c =
    only-some (filter (is_local_at c.args.candidates.now) c.args.places.now) c.in-Some.found (sym c.in-Some.ensures)

pub returns-in-None : goal.returns-in-None
returns-in-None c = only-none (filter (is_local_at c.args.candidates.now) c.args.places.now) (sym c.in-None.ensures)
