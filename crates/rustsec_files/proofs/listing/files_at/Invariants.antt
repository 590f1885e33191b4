use Rattle.rustsec_files.specs.Allowed.{AllowSame}
use Rattle.rustsec_files.specs.Listed.{IsFile, Pairwise}
use Rattle.rustsec_files.proofs.listing.files_at.Given as goal

-- the files so far are those at the paths so far
abbrev pub invariant-loop-path : goal.invariant-loop-path
invariant-loop-path g l = record {
  same : AllowSame (g.F.Folders.allowed l.fn.folders) (g.F.Folders.allowed l.folders);
  each : Pairwise (IsFile (g.F.Folders.allowed l.fn.folders)) l.yielded l.files;
}
