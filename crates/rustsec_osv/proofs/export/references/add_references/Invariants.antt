use Rattle.std.proofs.Common.{◌≡◌, ◌++◌, All, map}
use Rattle.rustsec_osv.specs.DocumentCodec.{IsReferenceAgain}
use Rattle.rustsec_osv.specs.References.{reference_of}
use Rattle.rustsec_osv.proofs.export.references.add_references.Given as goal

abbrev pub invariant-loop-address : goal.invariant-loop-address
invariant-loop-address l = record {
  value : l.references ++ map reference_of l.address-iterator.rest.items ≡ l.initial.references ++ map reference_of l.initial.address-iterator.rest.items;
  again : All IsReferenceAgain l.references;
}
