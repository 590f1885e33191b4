-- What each command writes.
use Rattle.std.specs.Prelude.{◌≡◌, ◌≢◌, ℕ, Bool, false, true, List, Option, Some, None, IfSome, map}
use Rattle.std.specs.Io.KnownBytes.{Appends}
use Rattle.rustsec_files.specs.Allowed.{Allowed}
use Rattle.rustsec_commands.specs.Commands as old
use Rattle.rustsec_commands.specs.Output.{Output, usage}
use Rattle.rustsec_commands.specs.args.Words as old_words
use Rattle.rustsec_program.specs.Check.{IsCheckOutput, IsManyOutput}
use Rattle.rustsec_program.specs.Explain.{IsExplainOutput}
use Rattle.rustsec_program.specs.Words.{Command, check, command_of, explain, many, short}
use Rattle.rustsec_program.specs.declared.command.Command as given
use Rattle.rustsec_program.specs.declared.command.Command.TheVariants as command

-- a command, with the texts of its words
abbrev pub command_view : given.Command → Command
command_view (command.Check paths options) = check paths.root.now paths.lock.now (map (λ w. w.now) options.now)
command_view (command.CheckMany root options) = many root.now (map (λ w. w.now) options.now)
command_view (command.Explain paths text options) = explain paths.root.now paths.lock.now text.now (map (λ w. w.now) options.now)
command_view command.Short = short

-- an output of a command of this crate, over folders that allow these answers; an output that depends on the input is specified only if its bytes are known
abbrev pub IsOwnOutput : Allowed → Command → Option (List ℕ) → Output → Type 0
IsOwnOutput allowed (check root lock options) input o = IsCheckOutput allowed root lock options o
IsOwnOutput allowed (many root options) input o = IfSome input (λ bytes. IsManyOutput allowed root options bytes o)
IsOwnOutput allowed (explain root lock text options) input o = IsExplainOutput allowed root lock text options o
IsOwnOutput allowed short input o = o ≡ usage

-- an output of words; those that name no command of this crate have the outputs that `rustsec_commands` gives them
abbrev pub IsOutputOf : Allowed → List (List ℕ) → Option Command → Option (List ℕ) → Output → Type 0
IsOutputOf allowed words (Some c) input o = IsOwnOutput allowed c input o
IsOutputOf allowed words None input o = old.IsOutputOf allowed (old_words.command_of words) input o

-- whether a command of this crate reads the input
abbrev pub reads_input : Command → Bool
reads_input (check root lock options) = false
reads_input (many root options) = true
reads_input (explain root lock text options) = false
reads_input short = false

abbrev pub reads_input_of : List (List ℕ) → Option Command → Bool
reads_input_of words (Some c) = reads_input c
reads_input_of words None = old.words_read_input words

-- whether words name a command that reads the input
abbrev pub words_read_input : List (List ℕ) → Bool
words_read_input words = reads_input_of words (command_of words)

-- the result of carrying out words, over folders that allow these answers and an input of these bytes: the status and the text of an output of the command
-- that the words name, and nothing else written
pub record Carries (allowed : Allowed) (words : List (List ℕ)) (input : Option (List ℕ)) (status : ℕ) (old new : Option (List ℕ)) : Type 0 where
  pub output : Output
  pub is_output : IsOutputOf allowed words (command_of words) input output
  pub status_is : status ≡ output.status
  pub text : Appends old new output.text

-- words have one output at most, if the bytes of the input are known or the command does not read it
abbrev pub HaveOneOutput : Allowed → List (List ℕ) → Option (List ℕ) → Type 0
HaveOneOutput allowed words input = (words_read_input words ≡ true → input ≢ None)
    → (one other : Output) → IsOutputOf allowed words (command_of words) input one → IsOutputOf allowed words (command_of words) input other → one ≡ other
