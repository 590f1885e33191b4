-- How an error is a refusal.
use Rattle.std.proofs.Common.{Err, IfErr, Ok, inl, inr}
use Rattle.std.specs.Prelude.{Result}
use Rattle.rustsec_values.specs.Failure.{Failure, IsMemory, IsOfKind, IsRefusal}
use Rattle.rustsec_values.specs.declared.error.ErrorKind.{ErrorKind}

-- the reason of the error holds
pub refusal : (k : ErrorKind) (e : Failure) {P : Type 0} → P → IsOfKind k e → IsRefusal k P e
refusal k e reason (inl bad) = inl (bad, reason)
refusal k e reason (inr memory) = inr memory

-- another reason follows from the reason of the error
pub refused_by : (k : ErrorKind) (e : Failure) {P Q : Type 0} → (P → Q) → IsRefusal k P e → IsRefusal k Q e
refused_by k e follows (inl bad) = inl (bad.0, follows bad.1)
refused_by k e follows (inr memory) = inr memory

-- an error whose reason never holds is out of memory
pub only_memory : {A : Type 0} (k : ErrorKind) (r : Result A Failure) {P : Type 0} → ¬ P → IfErr r (IsRefusal k P) → IfErr r IsMemory
only_memory k (Ok x) never h = tt
only_memory k (Err e) never (inl bad) = absurd (never bad.1)
only_memory k (Err e) never (inr memory) = memory
