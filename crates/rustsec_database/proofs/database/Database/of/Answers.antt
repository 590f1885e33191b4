use Rattle.std.proofs.Common.{subst}
use Rattle.rustsec_database.specs.Postings.{IsIndexOf}
use Rattle.rustsec_database.proofs.database.Database.of.Goals as goal

pub invariant_of-result : goal.invariant_of-result
invariant_of-result c = subst (λ l. IsIndexOf l c.in_ok-index.index) c.as_slice.ensures c.in_ok-index.ensures.ok
