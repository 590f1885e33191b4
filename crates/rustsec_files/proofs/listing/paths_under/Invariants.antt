use Rattle.std.proofs.Common.{◌≡◌, map, take}
use Rattle.rustsec_files.specs.Names.{under}
use Rattle.rustsec_files.proofs.listing.paths_under.Given as goal

-- the paths so far are those of the names so far
abbrev pub invariant-loop-name : goal.invariant-loop-name
invariant-loop-name l = l.paths.items ≡ map (under l.folder) (take l.name-index l.names)
