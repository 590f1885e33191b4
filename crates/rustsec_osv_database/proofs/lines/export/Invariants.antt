use Rattle.std.proofs.Common.{string_bytes, take}
use Rattle.rustsec_osv_database.specs.Lines.{AreParts}
use Rattle.rustsec_osv_database.proofs.lines.export.Given as goal

-- the parts of the advisories so far
abbrev pub invariant-loop-advisory : goal.invariant-loop-advisory
invariant-loop-advisory l = AreParts l.choice l.modified (take l.advisory-index l.advisories) (string_bytes l.exported.text) l.exported.missing
