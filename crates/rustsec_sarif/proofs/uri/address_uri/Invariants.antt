use Rattle.std.proofs.Common.{◌≡◌, string_bytes, take}
use Rattle.rustsec_sarif.specs.SarifWords.{address_uri}
use Rattle.rustsec_sarif.proofs.uri.address_uri.Given as goal

abbrev pub invariant-loop-byte : goal.invariant-loop-byte
invariant-loop-byte l = string_bytes l.text ≡ address_uri (take l.byte-index l.byte-items)
