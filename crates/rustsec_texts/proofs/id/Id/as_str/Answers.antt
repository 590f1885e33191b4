use Rattle.std.proofs.Common.{◌≡◌, ◌∙◌, Some, ap, subst, sym}
use Rattle.rustsec_texts.specs.Ids.{IdValue, id_of}
use Rattle.rustsec_texts.proofs.id.Id.as_str.Goals as goal

some-same : (a b : IdValue) → Some a ≡ Some b → a ≡ b
some-same a b h = cc h

pub returns-clause-alone : goal.returns-clause-alone
returns-clause-alone c = λ other read same.
    some-same other c.args.self.now (sym read ∙ ap id_of same ∙ subst (λ (i : IdValue). id_of i.text ≡ Some i) c.self.view_is c.self.invariant)
