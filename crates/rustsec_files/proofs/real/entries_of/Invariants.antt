use Rattle.std.proofs.Common.{◌≡◌}
use Rattle.rustsec_files.specs.Names.{names_of}
use Rattle.rustsec_files.proofs.real.entries_of.Given as goal

-- the entries so far are those of the names so far
abbrev pub invariant-loop-name : goal.invariant-loop-name
invariant-loop-name g l = names_of l.entries ≡ l.yielded
