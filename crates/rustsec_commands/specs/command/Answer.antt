-- The result of the command `ranges`: its status, and what its writer holds afterwards.
use Rattle.std.specs.Prelude.{◌≡◌, ℕ, List, Option}
use Rattle.std.specs.Io.KnownBytes.{Appends}
use Rattle.rustsec_commands.specs.Output.{IsRangesOutput, Output}

-- the status and the text of `ranges` for an input, and nothing else written
pub record AnswersRanges (input : List ℕ) (status : ℕ) (old new : Option (List ℕ)) : Type 0 where
  pub output : Output
  pub is_output : IsRangesOutput input output
  pub only : (other : Output) → IsRangesOutput input other → other ≡ output
  pub status_is : status ≡ output.status
  pub text : Appends old new output.text
