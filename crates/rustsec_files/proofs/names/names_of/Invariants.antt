use Rattle.std.proofs.Common.{◌≡◌}
use Rattle.rustsec_files.specs.Names.{names_of}
use Rattle.rustsec_files.proofs.names.names_of.Given as goal

-- the names so far are those of the entries so far
abbrev pub invariant-loop-entry : goal.invariant-loop-entry
invariant-loop-entry l = l.names.items ≡ names_of l.yielded
