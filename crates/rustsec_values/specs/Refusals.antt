-- What messages of refusals say.
-- It carries meaning: public contracts cite it.
use Rattle.std.specs.Prelude.{◌≡◌, ◌++◌, ℕ, List, Option, Some, None, codes}
use Rattle.rustsec_values.specs.Beginnings.{IsBeginning}
use Rattle.rustsec_values.specs.Failure.{Failure}
use Rattle.rustsec_values.specs.declared.error.ErrorKind.TheVariants as kind

-- a refusal without a cause: what is wrong, the first 60 bytes of the text that was found, and what was expected
abbrev pub ShowsText : List ℕ → List ℕ → List ℕ → Failure → Type 0
ShowsText wrong found expected e =
    (shown : List ℕ) × IsBeginning 60 found shown × (e ≡ record { kind = kind.Parse; message = wrong ++ (codes " `" ++ (shown ++ (codes "`, expected " ++ expected))); cause = None })

-- the same refusal, with a parser's reason as its cause
abbrev pub ShowsReason : List ℕ → List ℕ → List ℕ → List ℕ → Failure → Type 0
ShowsReason why wrong found expected e = (refusal : Failure) × (ShowsText wrong found expected refusal × (e ≡ record refusal { cause = Some why }))

-- an error with its place before the message
abbrev pub at_place : List ℕ → Failure → Failure
at_place place e = record e { message = place ++ (codes ": " ++ e.message) }

-- a message, followed by the cause
abbrev pub with_cause : List ℕ → Option (List ℕ) → List ℕ
with_cause message None = message
with_cause message (Some cause) = message ++ (codes ": " ++ cause)

abbrev pub whole_message : Failure → List ℕ
whole_message e = with_cause e.message e.cause

-- the error of a file, from the error of its text
abbrev pub of_file : List ℕ → Failure → Failure
of_file path e = record { kind = e.kind; message = codes "error parsing " ++ path; cause = Some (whole_message e) }
