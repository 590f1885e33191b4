use Rattle.rustsec_advisory.proofs.FunctionMaps.{Walked}
use Rattle.rustsec_advisory.proofs.front_matter.functions.Given as goal

abbrev pub invariant-loop-key : goal.invariant-loop-key
invariant-loop-key l = Walked l.table.entries l.key-iterator l.functions
