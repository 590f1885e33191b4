use Rattle.std.proofs.Common.{take}
use Rattle.rustsec_database.specs.Places.{IsIndexByName}
use Rattle.rustsec_database.proofs.locked.index_of.Given as goal

-- the index has the packages so far
abbrev pub invariant-loop-place : goal.invariant-loop-place
invariant-loop-place l = IsIndexByName (take l.place l.packages) l.index
