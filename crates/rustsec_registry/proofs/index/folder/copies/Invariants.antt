use Rattle.std.proofs.Common.{◌≡◌, take}
use Rattle.rustsec_registry.proofs.index.folder.copies.Given as goal

-- the copies so far
abbrev pub invariant-loop-entry : goal.invariant-loop-entry
invariant-loop-entry l = l.copies ≡ take l.entry-index l.all
