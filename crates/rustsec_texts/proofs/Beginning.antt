-- The message for a text that does not begin as an advisory file.
use Rattle.std.proofs.Common.{◌≡◌, ◌⊎◌, inl, inr, List, None, ℕ, ap, ◌∙◌}
use Rattle.rustsec_values.specs.Beginnings.{IsBeginning}
use Rattle.rustsec_values.specs.declared.error.ErrorKind.TheVariants as kind
use Rattle.rustsec_values.specs.Failure.{Failure, IsRefusal, out_of_memory}
use Rattle.rustsec_texts.specs.Parts.{ShowsBeginning, start_message}

pub shows : (text b message : List ℕ) (e : Failure) → IsBeginning 20 text b → message ≡ start_message b
    → ((e ≡ record { kind = kind.Parse; message = message; cause = None }) ⊎ (e ≡ out_of_memory))
    → IsRefusal kind.Parse (ShowsBeginning text e) e
shows text b message e cut said (inl h) = inl (ap (λ (f : Failure). f.kind) h, (b, cut, ap (λ (f : Failure). f.message) h ∙ said))
shows text b message e cut said (inr h) = inr h
