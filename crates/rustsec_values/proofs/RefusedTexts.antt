-- The message for a refused text.
use Rattle.std.proofs.Common.{◌≡◌, ◌⊎◌, inl, inr, ℕ, List, ◌++◌, None, Some, codes, ap, sym, ◌∙◌}
use Rattle.rustsec_values.specs.Beginnings.{IsBeginning}
use Rattle.rustsec_values.specs.declared.error.ErrorKind.TheVariants as kind
use Rattle.rustsec_values.specs.Failure.{Failure, IsRefusal, out_of_memory}
use Rattle.rustsec_values.specs.Refusals.{ShowsReason, ShowsText}

pub shows : (wrong found expected shown message : List ℕ) (e : Failure) → IsBeginning 60 found shown
    → message ≡ wrong ++ (codes " `" ++ (shown ++ (codes "`, expected " ++ expected)))
    → ((e ≡ record { kind = kind.Parse; message = message; cause = None }) ⊎ (e ≡ out_of_memory))
    → IsRefusal kind.Parse (ShowsText wrong found expected e) e
shows wrong found expected shown message e cut said (inl h) =
    let refusal : List ℕ → Failure = λ m. record { kind = kind.Parse; message = m; cause = None } in
    inl (ap (λ (f : Failure). f.kind) h, (shown, cut, h ∙ ap refusal said))
shows wrong found expected shown message e cut said (inr h) = inr h

-- of the kind that refused memory has, a refusal is out of memory
pub without-room : (wrong found expected : List ℕ) (e : Failure) → IsRefusal kind.Parse (ShowsText wrong found expected e) e
    → e.kind ≡ kind.OutOfMemory → e ≡ out_of_memory
without-room wrong found expected e (inl refused) room = absurd (cc (sym refused.0 ∙ room))
without-room wrong found expected e (inr memory) room = memory

-- the same refusal with a reason, unless it is out of memory
pub with-reason : (why wrong found expected message : List ℕ) (refusal e : Failure) → IsRefusal kind.Parse (ShowsText wrong found expected refusal) refusal
    → ¬ (refusal.kind ≡ kind.OutOfMemory) → message ≡ refusal.message
    → ((e ≡ record { kind = kind.Parse; message = message; cause = Some why }) ⊎ (e ≡ out_of_memory))
    → IsRefusal kind.Parse (ShowsReason why wrong found expected e) e
with-reason why wrong found expected message refusal e (inl refused) room said (inl is) =
    let same = ap (λ k. record { kind = k; message = message; cause = Some why }) (sym refused.0) in
    let shown : List ℕ → Failure = λ m. record { kind = refusal.kind; message = m; cause = Some why } in
    inl (ap (λ (f : Failure). f.kind) is, (refusal, (refused.1, is ∙ (same ∙ ap shown said))))
with-reason why wrong found expected message refusal e (inr memory) room said (inl is) = absurd (room (ap (λ (f : Failure). f.kind) memory))
with-reason why wrong found expected message refusal e refused room said (inr memory) = inr memory
