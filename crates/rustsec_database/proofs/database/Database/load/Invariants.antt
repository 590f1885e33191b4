use Rattle.std.proofs.Common.{take}
use Rattle.rustsec_database.specs.Loaded.{AreLoaded}
use Rattle.rustsec_database.proofs.database.Database.load.Given as goal

-- the files so far are loaded
abbrev pub invariant-loop-file : goal.invariant-loop-file
invariant-loop-file l = AreLoaded (take l.file-index l.files) l.entries
