use Rattle.std.proofs.Common.{◌≡◌, string_bytes, take}
use Rattle.rustsec_registry.specs.index.IndexPath.{below}
use Rattle.rustsec_registry.proofs.index.folder.below.Given as goal

-- the path so far has the names so far
abbrev pub invariant-loop-name : goal.invariant-loop-name
invariant-loop-name l = string_bytes l.path ≡ below l.folder (take l.name-index l.names)
