-- The error of a file, from the error of its text.
use Rattle.std.proofs.Common.{◌≡◌, ◌⊎◌, ◌∙◌, ℕ, List, inl, inr}
use Rattle.rustsec_values.specs.Failure.{Failure, IsMemory, IsOfKind, IsRefusal}
use Rattle.rustsec_values.specs.Refusals.{of_file}
use Rattle.rustsec_values.specs.declared.error.ErrorKind.{ErrorKind}
use Rattle.rustsec_advisory.specs.FileRefusals.{IsOfFile}

-- an error that keeps the kind and out of memory keeps the reason
pub same_reason : {P : Type 0} (k : ErrorKind) (e r : Failure) → IsRefusal k P e → IsOfKind e.kind r → (IsMemory e → IsMemory r) → IsRefusal k P r
same_reason k e r (inl bad) (inl same) keeps = inl (same ∙ bad.0, bad.1)
same_reason k e r (inl bad) (inr memory) keeps = inr memory
same_reason k e r (inr memory) h keeps = inr (keeps memory)

pub is_of_file : (path : List ℕ) (e r : Failure) → (r ≡ of_file path e) ⊎ IsMemory r → IsOfFile path r
is_of_file path e r (inl same) = inl (e, same)
is_of_file path e r (inr memory) = inr memory
