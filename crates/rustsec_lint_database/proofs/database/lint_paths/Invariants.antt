use Rattle.std.proofs.Common.{take}
use Rattle.rustsec_files.specs.Allowed.{AllowSame}
use Rattle.rustsec_lint_database.proofs.Firsts.{AreSoFar}
use Rattle.rustsec_lint_database.proofs.database.lint_paths.Given as goal

-- the folders allow the same as at the beginning, and the files at the paths so far are linted
abbrev pub invariant-loop-path : goal.invariant-loop-path
invariant-loop-path g l = record {
  same : AllowSame (g.F.Folders.allowed l.fn.folders) (g.F.Folders.allowed l.folders);
  files : AreSoFar (g.F.Folders.allowed l.fn.folders) (take l.path-index l.paths) l.linting.entries l.linting.firsts;
}
