use Rattle.std.proofs.Common.{drop}
use Rattle.rustsec_files.specs.Allowed.{AllowSame}
use Rattle.rustsec_registry.specs.index.IndexFolder.{IsListed, IsMissing}
use Rattle.rustsec_registry.proofs.index.place.is_missing.Given as goal

-- from the folder so far on, the rest of the way decides
abbrev pub invariant-loop-name : goal.invariant-loop-name
invariant-loop-name g l = record {
  same : AllowSame (g.F.Folders.allowed l.fn.folders) (g.F.Folders.allowed l.folders);
  missing : IsMissing (g.F.Folders.allowed l.fn.folders) l.folder (drop l.name-index l.path) → IsMissing (g.F.Folders.allowed l.fn.folders) l.root l.path;
  listed : IsListed (g.F.Folders.allowed l.fn.folders) l.folder (drop l.name-index l.path) → IsListed (g.F.Folders.allowed l.fn.folders) l.root l.path;
}
