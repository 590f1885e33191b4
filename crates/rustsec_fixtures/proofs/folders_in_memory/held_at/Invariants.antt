use Rattle.std.proofs.Common.{◌≡◌, drop}
use Rattle.rustsec_fixtures.specs.FoldersInMemory.{held_at}
use Rattle.rustsec_fixtures.proofs.folders_in_memory.held_at.Given as goal

-- no row so far has the path
abbrev pub invariant-loop-row : goal.invariant-loop-row
invariant-loop-row l = held_at l.paths l.path ≡ held_at (drop l.row-index l.paths) l.path
