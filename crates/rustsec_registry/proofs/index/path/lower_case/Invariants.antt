use Rattle.std.proofs.Common.{◌≡◌, string_bytes, take, true}
use Rattle.std.specs.List.{list_all}
use Rattle.rustsec_registry.specs.index.IndexPath.{is_name_byte, lower_case}
use Rattle.rustsec_registry.proofs.index.path.lower_case.Given as goal

-- the bytes so far are those of a name, and in lower case they are the text so far
abbrev pub invariant-loop-byte : goal.invariant-loop-byte
invariant-loop-byte l = record {
  lower : string_bytes l.lower ≡ lower_case (take l.byte-index l.bytes);
  named : list_all is_name_byte (take l.byte-index l.bytes) ≡ true;
}
