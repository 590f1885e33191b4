-- What a contract sees of an error, and how contracts describe refusals. It carries meaning: public contracts cite
-- it.
use Rattle.std.specs.Prelude.{◌≡◌, ◌⊎◌, ◌++◌, ◌==◌, ℕ, List, [], Option, Some, None, codes, if◌then◌else◌, length}
use Rattle.rustsec_values.specs.declared.error.ErrorKind.{ErrorKind}
use Rattle.rustsec_values.specs.declared.error.ErrorKind.TheVariants as kind

-- an error: its kind, its message and the text of its cause
pub record Failure : Type 0 where
  pub kind : ErrorKind
  pub message : List ℕ
  pub cause : Option (List ℕ)

-- a text, empty if it is missing
abbrev pub or_empty : Option (List ℕ) → List ℕ
or_empty None = []
or_empty (Some text) = text

-- the error of refused memory, which has no message
abbrev pub out_of_memory : Failure
out_of_memory = record { kind = kind.OutOfMemory; message = []; cause = None }

-- refused for memory alone
abbrev pub IsMemory : Failure → Type 0
IsMemory e = e ≡ out_of_memory

-- refused with this kind, which means that the reason holds; or out of memory
abbrev pub IsRefusal : ErrorKind → Type 0 → Failure → Type 0
IsRefusal k reason e = ((e.kind ≡ k) × reason) ⊎ (e ≡ out_of_memory)

-- refused with this kind, or out of memory for the message
abbrev pub IsOfKind : ErrorKind → Failure → Type 0
IsOfKind k e = (e.kind ≡ k) ⊎ (e ≡ out_of_memory)

-- the text of a kind
abbrev pub kind_text : ErrorKind → List ℕ
kind_text kind.BadParam = codes "bad parameter"
kind_text kind.Io = codes "I/O operation failed"
kind_text kind.NotFound = codes "not found"
kind_text kind.LockTimeout = codes "unable to acquire filesystem lock"
kind_text kind.Parse = codes "parse error"
kind_text kind.Registry = codes "registry"
kind_text kind.Repo = codes "git operation failed"
kind_text kind.Version = codes "bad version"
kind_text kind.OutOfMemory = codes "out of memory"

-- a text after a colon; nothing if the text is empty
abbrev pub after_colon : List ℕ → List ℕ
after_colon text = if length text == 0 then [] else codes ": " ++ text

-- a cause after a colon; nothing if there is none
abbrev pub cause_after_colon : Option (List ℕ) → List ℕ
cause_after_colon None = []
cause_after_colon (Some text) = codes ": " ++ text

-- how an error prints: its kind, a colon and its message
abbrev pub failure_text : Failure → List ℕ
failure_text e = kind_text e.kind ++ (codes ": " ++ e.message)

-- what a person is told of an error: its kind, its message and its cause
abbrev pub text_with_cause : Failure → List ℕ
text_with_cause e = kind_text e.kind ++ (after_colon e.message ++ cause_after_colon e.cause)
