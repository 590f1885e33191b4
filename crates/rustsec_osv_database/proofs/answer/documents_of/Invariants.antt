use Rattle.std.proofs.Common.{map, take}
use Rattle.rustsec_osv_database.specs.Answers.{AreDocuments}
use Rattle.rustsec_osv_database.proofs.answer.documents_of.Given as goal

-- the documents of the advisories so far
abbrev pub invariant-loop-advisory : goal.invariant-loop-advisory
invariant-loop-advisory l = AreDocuments (map (λ a. a.now) (take l.advisory-index l.advisories)) l.documents
