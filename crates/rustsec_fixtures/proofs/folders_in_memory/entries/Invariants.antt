use Rattle.std.proofs.Common.{◌≡◌, map, take}
use Rattle.rustsec_fixtures.specs.FoldersInMemory.{entry_of}
use Rattle.rustsec_fixtures.proofs.folders_in_memory.entries.Given as goal

-- the entries of the rows so far
abbrev pub invariant-loop-row : goal.invariant-loop-row
invariant-loop-row l = l.entries ≡ map entry_of (take l.row-index l.rows)
