use Rattle.std.proofs.Common.{◌≡◌, ◌++◌, ◌∷◌, All, List, [], Err, Ok, OnOk, sym, subst}
use Rattle.std.specs.Prelude.{Result}
use Rattle.std.specs.declared.alloc.AllocError.{AllocError}
use Rattle.std.proofs.lemmas.List.Elements.{All-append, All-cons, All-nil}
use Rattle.rustsec_osv.specs.DocumentCodec.{IsReferenceAgain}
use Rattle.rustsec_osv.specs.declared.reference.OsvReference.{OsvReference}
use Rattle.rustsec_osv.proofs.export.references.add_reference.Goals as goal

one-more : (old new : List OsvReference) (r : OsvReference) (answer : Result Unit AllocError) → OnOk answer (new ≡ old ++ r ∷ [])
    → All IsReferenceAgain old → IsReferenceAgain r → OnOk answer (All IsReferenceAgain new)
one-more old new r (Ok u) is all one =
    subst (All IsReferenceAgain) (sym is) (All-append IsReferenceAgain old (r ∷ []) all (All-cons IsReferenceAgain r [] one (All-nil IsReferenceAgain)))
one-more old new r (Err e) is all one = tt

pub returns-clause-again : goal.returns-clause-again
returns-clause-again c =
    one-more c.args.references.now c.push.new.self c.reference_of.result c.push.result c.push.ensures.ok c.requires c.reference_of.ensures.again
