use Rattle.std.proofs.Common.{◌≡◌, ◌≤◌, take}
use Rattle.std.specs.List.{count_by}
use Rattle.rustsec_registry.specs.index.IndexFile.{is_newline}
use Rattle.rustsec_registry.proofs.index.file.count_newlines.Given as goal

-- the line feeds so far
abbrev pub invariant-loop-byte : goal.invariant-loop-byte
invariant-loop-byte l = record {
  count : l.count ≡ count_by is_newline (take l.byte-index l.bytes);
  bound : l.count ≤ l.byte-index;
}
