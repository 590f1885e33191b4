use Rattle.std.proofs.Common.{◌≡◌, take, Some}
use Rattle.rustsec_osv.specs.Imports.{linked_ids}
use Rattle.rustsec_osv.proofs.export.imports.linked_ids.Given as goal

abbrev pub invariant-loop-reference : goal.invariant-loop-reference
invariant-loop-reference l = linked_ids (take l.reference-index l.references) ≡ Some l.ids
