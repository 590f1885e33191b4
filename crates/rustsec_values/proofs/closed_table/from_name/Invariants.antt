use Rattle.std.proofs.Common.{◌≡◌, drop}
use Rattle.rustsec_values.specs.ClosedTables.{from_name}
use Rattle.rustsec_values.proofs.closed_table.from_name.Given as goal

abbrev pub invariant-loop-value : goal.invariant-loop-value
invariant-loop-value g l = from_name g.T.ClosedEnum.name_of g.T.ClosedEnum.values l.text ≡ from_name g.T.ClosedEnum.name_of (drop l.value-index l.value-items) l.text
