use Rattle.std.proofs.Common.{List}
use Rattle.rustsec_files.specs.Allowed.{AllowSame, read_from}
use Rattle.rustsec_files.specs.Listed.{IsFile, Pairwise}
use Rattle.rustsec_files.specs.declared.source_file.SourceFile.{SourceFile}
use Rattle.rustsec_database.specs.Kept.{IsKeptLoadOf}
use Rattle.rustsec_database.proofs.keeping.keep_paths.Given as goal

-- the files at the paths so far were read, and `loaded` is the result of loading them
abbrev pub invariant-loop-path : goal.invariant-loop-path
invariant-loop-path g l = record {
  same : AllowSame (g.F.Folders.allowed l.fn.folders) (g.F.Folders.allowed l.folders);
  load : (files : List SourceFile) × (Pairwise (IsFile (read_from g.F.Folders.opened (g.F.Folders.allowed l.fn.folders))) l.yielded files
      × IsKeptLoadOf (g.T.Predicate.holds l.test) files l.loaded);
}
