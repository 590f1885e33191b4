use Rattle.std.proofs.Common.{◌≡◌, map, take}
use Rattle.std.specs.Prelude.{string_bytes}
use Rattle.rustsec_osv.specs.Imports.{crate_names}
use Rattle.rustsec_osv.proofs.export.imports.crate_names.Given as goal

abbrev pub invariant-loop-member : goal.invariant-loop-member
invariant-loop-member l = map string_bytes l.names.items ≡ crate_names (take l.member-index l.members)
