-- What each command writes.
use Rattle.std.specs.Prelude.{◌≡◌, ◌≢◌, ℕ, Bool, false, true, List, Option, Some, None, map}
use Rattle.std.specs.Io.KnownBytes.{Appends, Keeps}
use Rattle.rustsec_files.specs.Allowed.{Allowed}
use Rattle.rustsec_commands.specs.Output.{Output, usage}
use Rattle.rustsec_program.specs.Commands as audits
use Rattle.rustsec_program.specs.Words as audit_words
use Rattle.rustsec_program.specs.Writing as audit_writing
use Rattle.rustsec_database_commands.specs.Lint.{IsLintOutput}
use Rattle.rustsec_database_commands.specs.Osv.{IsDatabaseOutput, IsQueryOutput}
use Rattle.rustsec_database_commands.specs.Stats.{IsStatsOutput}
use Rattle.rustsec_database_commands.specs.Words.{Command, command_of, lint, osv, query, short, stats}
use Rattle.rustsec_database_commands.specs.declared.command.Command as given
use Rattle.rustsec_database_commands.specs.declared.command.Command.TheVariants as command

-- a command, with the texts of its words
abbrev pub command_view : given.Command → Command
command_view (command.LintDatabase root options) = lint root.now (map (λ w. w.now) options.now)
command_view (command.Stats root options) = stats root.now (map (λ w. w.now) options.now)
command_view (command.OsvDatabase root modified options) = osv root.now modified.now (map (λ w. w.now) options.now)
command_view (command.QueryOsv q) = query q.root.now q.name.now q.version.now
command_view command.Short = short

-- an output of a command of this crate, over folders that allow these answers
abbrev pub IsOwnOutput : Allowed → Command → Output → Type 0
IsOwnOutput allowed (lint root options) o = IsLintOutput allowed root options o
IsOwnOutput allowed (stats root options) o = IsStatsOutput allowed root options o
IsOwnOutput allowed (osv root modified options) o = IsDatabaseOutput allowed root modified options o
IsOwnOutput allowed (query root name version) o = IsQueryOutput allowed root name version o
IsOwnOutput allowed short o = o ≡ usage

-- an output of words; those that name no command of this crate have the outputs that `rustsec_program` gives them
abbrev pub IsOutputOf : Allowed → List (List ℕ) → Option Command → Option (List ℕ) → Output → Type 0
IsOutputOf allowed words (Some c) input o = IsOwnOutput allowed c o
IsOutputOf allowed words None input o = audits.IsOutputOf allowed words (audit_words.command_of words) input o

-- a command of this crate does not read the input
abbrev pub reads_input_of : List (List ℕ) → Option Command → Bool
reads_input_of words (Some c) = false
reads_input_of words None = audits.words_read_input words

-- whether words name a command that reads the input
abbrev pub words_read_input : List (List ℕ) → Bool
words_read_input words = reads_input_of words (command_of words)

-- the result of carrying out words, over folders that allow these answers and an input of these bytes: the status and the text of an output of the command
-- that the words name, and nothing else written
pub record Carries (allowed : Allowed) (words : List (List ℕ)) (input : Option (List ℕ)) (status : ℕ) (old new : Option (List ℕ)) : Type 0 where
  pub output : Output
  pub is_output : IsOutputOf allowed words (command_of words) input output
  pub status_is : status ≡ output.status
  pub text : Appends old new output.text

-- words have one output at most, if the bytes of the input are known or the command does not read it
abbrev pub HaveOneOutput : Allowed → List (List ℕ) → Option (List ℕ) → Type 0
HaveOneOutput allowed words input = (words_read_input words ≡ true → input ≢ None)
    → (one other : Output) → IsOutputOf allowed words (command_of words) input one → IsOutputOf allowed words (command_of words) input other → one ≡ other

-- what is written where a command breaks off: nothing by those of this crate
abbrev pub IsBrokenOff : Allowed → List (List ℕ) → Option Command → Option (List ℕ) → Option (List ℕ) → Option (List ℕ) → Type 0
IsBrokenOff allowed words (Some c) input old new = Keeps old new
IsBrokenOff allowed words None input old new = audit_writing.IsBrokenOff allowed (audit_words.command_of words) input old new
