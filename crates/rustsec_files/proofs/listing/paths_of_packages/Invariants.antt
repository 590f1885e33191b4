use Rattle.std.proofs.Common.{take}
use Rattle.rustsec_files.specs.Allowed.{AllowSame}
use Rattle.rustsec_files.specs.Listed.{AreFolders}
use Rattle.rustsec_files.specs.Seen.{listed_from}
use Rattle.rustsec_files.proofs.listing.paths_of_packages.Given as goal

-- the paths so far are those of the folders so far
abbrev pub invariant-loop-name : goal.invariant-loop-name
invariant-loop-name g l = record {
  same : AllowSame (g.F.Folders.allowed l.fn.folders) (g.F.Folders.allowed l.folders);
  all : AreFolders (listed_from g.F.Folders.listed (g.F.Folders.allowed l.fn.folders)) l.collection (take l.name-index l.names) l.paths.items;
}
