-- The failures of a reader of files, for a file that cannot be opened or read.
use Rattle.std.specs.Prelude.{◌≡◌, ◌⊎◌, ◌++◌, ℕ, Err, IfErr, IsSome, List, Result, Some, codes}
use Rattle.std.specs.IoError.{error_kind}
use Rattle.std.specs.declared.io.Error.{Error}
use Rattle.std.specs.declared.io.ErrorKind.TheVariants as io_kind
use Rattle.std.specs.Fmt.{decimal}
use Rattle.rustsec_values.specs.Failure.{Failure, out_of_memory}
use Rattle.rustsec_values.specs.declared.error.ErrorKind.TheVariants as kind

-- the message that names the path of a file that cannot be opened, or of a folder that cannot be listed
abbrev pub open_message : List ℕ → List ℕ
open_message path = codes "couldn't open " ++ path

-- the message that names the path of a file that was found and cannot be read
abbrev pub read_message : List ℕ → List ℕ
read_message path = codes "couldn't read " ++ path

-- the failure with this message, for this reason
abbrev pub io_failure : List ℕ → List ℕ → Failure
io_failure message why = record { kind = kind.Io; message = message; cause = Some why }

-- a failure with this message and a cause, or out of memory
abbrev pub IsIoFailure : List ℕ → Failure → Type 0
IsIoFailure message e = ((e.kind ≡ kind.Io) × ((e.message ≡ message) × IsSome e.cause)) ⊎ (e ≡ out_of_memory)

-- the failure of a path that cannot be opened, or that was found and cannot be read
abbrev pub IsReadFailure : List ℕ → Failure → Type 0
IsReadFailure path e = IsIoFailure (open_message path) e ⊎ IsIoFailure (read_message path) e

-- the reason that bytes are not UTF-8 from this offset on
abbrev pub not_utf8_from : ℕ → List ℕ
not_utf8_from offset = codes "it is not UTF-8 from byte offset " ++ (decimal offset ++ codes " on")

-- refused memory stays that: an answer of the system that is an error of memory gives out of memory
abbrev pub KeepsMemory : {A B : Type 0} → Result A Error → Result B Failure → Type 0
KeepsMemory answer result = IfErr answer (λ e. error_kind e ≡ io_kind.OutOfMemory → result ≡ Err out_of_memory)
