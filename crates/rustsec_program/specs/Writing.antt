-- What a command has written: an output as a whole, or, where `check-many` breaks off, the lines of the first lockfiles.
use Rattle.std.specs.Prelude.{◌≡◌, ℕ, List, Option, None, Some, IfSome, take}
use Rattle.std.specs.Io.KnownBytes.{Appends, Keeps}
use Rattle.rustsec_files.specs.Allowed.{Allowed}
use Rattle.rustsec_commands.specs.Output.{Output}
use Rattle.rustsec_program.specs.Check.{AreAnswers, IsGround, IsList, paths_of, separator}
use Rattle.rustsec_program.specs.CheckOptions.{CheckOption, options_of}
use Rattle.rustsec_program.specs.Checked.{Ground}
use Rattle.rustsec_program.specs.Words.{Command, check, explain, many, short}

-- what is known before the first line of `check-many`: plan and advisories, and the paths of the lockfiles
pub record PreparedValue : Type 0 where
  pub ground : Ground
  pub paths : List (List ℕ)

-- the same for a root, options and the bytes of an input
pub record IsPrepared (allowed : Allowed) (root : List ℕ) (options : List CheckOption) (input : List ℕ) (p : PreparedValue) : Type 0 where
  pub ground : IsGround allowed root options p.ground
  pub is_list : IsList options input
  pub paths : p.paths ≡ paths_of (separator options) input

-- an output of this kind is written as a whole, and nothing else; this is its status
pub record Writes (wanted : Output → Type 0) (status : ℕ) (old new : Option (List ℕ)) : Type 0 where
  pub output : Output
  pub is_output : wanted output
  pub status_is : status ≡ output.status
  pub text : Appends old new output.text

-- the lines for the first of some paths are written, and nothing else
pub record WritesFirst (allowed : Allowed) (g : Ground) (paths : List (List ℕ)) (old new : Option (List ℕ)) : Type 0 where
  pub number : ℕ
  pub output : Output
  pub answers : AreAnswers allowed g (take number paths) output
  pub text : Appends old new output.text

-- the lines for the first of the lockfiles that an input names are written, and nothing else
pub record WritesLines (allowed : Allowed) (root : List ℕ) (options : List CheckOption) (input : List ℕ) (old new : Option (List ℕ)) : Type 0 where
  pub ground : Ground
  pub is_ground : IsGround allowed root options ground
  pub is_list : IsList options input
  pub lines : WritesFirst allowed ground (paths_of (separator options) input) old new

-- where `check-many` breaks off, for a root, the words after it and the bytes of an input: before the first line, or after some
pub data BreaksOff (allowed : Allowed) (root : List ℕ) (words : List (List ℕ)) (input : List ℕ) (old new : Option (List ℕ)) : Type 0 where
  before_all : Keeps old new → BreaksOff allowed root words input old new
  after_some : (options : List CheckOption) → options_of words ≡ Some options → WritesLines allowed root options input old new
      → BreaksOff allowed root words input old new

-- what is written where a command breaks off: nothing, except by `check-many`. If the bytes of its input are not known, nothing is specified
unfoldable pub IsBrokenOff : Allowed → Option Command → Option (List ℕ) → Option (List ℕ) → Option (List ℕ) → Type 0
IsBrokenOff allowed None input old new = Keeps old new
IsBrokenOff allowed (Some (check root lock options)) input old new = Keeps old new
IsBrokenOff allowed (Some (many root options)) input old new = IfSome input (λ bytes. BreaksOff allowed root options bytes old new)
IsBrokenOff allowed (Some (explain root lock text options)) input old new = Keeps old new
IsBrokenOff allowed (Some short) input old new = Keeps old new
