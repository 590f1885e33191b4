-- What each command writes.
use Rattle.std.specs.Prelude.{◌≡◌, ◌≢◌, ℕ, Bool, false, true, List, Option, IfErr, IfOk, IfSome, None, Result, map}
use Rattle.std.specs.Io.KnownBytes.{Appends, Keeps}
use Rattle.rustsec_files.specs.Allowed.{Allowed}
use Rattle.rustsec_commands.specs.command.Lint.{IsLintOutput}
use Rattle.rustsec_commands.specs.command.Osv.{IsOsvOutput}
use Rattle.rustsec_commands.specs.Output.{IsOnlyRangesOutput, Output, affected_output, usage}
use Rattle.rustsec_commands.specs.command.Reports.{IsAuditOutput, IsReportOutput}
use Rattle.rustsec_commands.specs.args.Words.{Command, affected, audit, command_of, lint, none, osv, ranges, report}
use Rattle.rustsec_commands.specs.declared.args.Command as given
use Rattle.rustsec_commands.specs.declared.args.Command.TheVariants as command
use Rattle.rustsec_commands.specs.declared.fault.Fault.{Fault}
use Rattle.rustsec_commands.specs.declared.fault.Fault.TheVariants as fault

-- a command, with the texts of its words
abbrev pub command_view : given.Command → Command
command_view command.Affected = affected
command_view command.Ranges = ranges
command_view (command.Lint path) = lint path.now
command_view (command.Osv path modified) = osv path.now modified.now
command_view (command.Report root lock) = report root.now lock.now
command_view (command.Audit root lock options) = audit root.now lock.now (map (λ w. w.now) options.now)
command_view (command.Unknown words) = none

-- an output of a command, over folders that allow these answers; the output of `affected` and `ranges` is specified only if the bytes of the input are known
abbrev pub IsOutputOf : Allowed → Command → Option (List ℕ) → Output → Type 0
IsOutputOf allowed affected input o = IfSome input (λ bytes. o ≡ affected_output bytes)
IsOutputOf allowed ranges input o = IfSome input (λ bytes. IsOnlyRangesOutput bytes o)
IsOutputOf allowed (lint path) input o = IsLintOutput allowed path o
IsOutputOf allowed (osv path modified) input o = IsOsvOutput allowed path modified o
IsOutputOf allowed (report root lock) input o = IsReportOutput allowed root lock o
IsOutputOf allowed (audit root lock options) input o = IsAuditOutput allowed root lock options o
IsOutputOf allowed none input o = o ≡ usage

-- whether a command reads the input
abbrev pub reads_input : Command → Bool
reads_input affected = true
reads_input ranges = true
reads_input (lint path) = false
reads_input (osv path modified) = false
reads_input (report root lock) = false
reads_input (audit root lock options) = false
reads_input none = false

-- whether the words name a command that reads the input
abbrev pub words_read_input : List (List ℕ) → Bool
words_read_input words = reads_input (command_of words)

-- the result of carrying out words, over folders that allow these answers and an input of these bytes: the status and the text of an output of the command
-- that the words name, and nothing else written
pub record Carries (allowed : Allowed) (words : List (List ℕ)) (input : Option (List ℕ)) (status : ℕ) (old new : Option (List ℕ)) : Type 0 where
  pub output : Output
  pub is_output : IsOutputOf allowed (command_of words) input output
  pub status_is : status ≡ output.status
  pub text : Appends old new output.text

-- what carrying out words gives, whatever comes of it: a status is that of an output of the words, which alone was written; an input that no command of the
-- words reads has the same bytes left; and after another fault than a failed write nothing was written
pub record CarriesOut (allowed : Allowed) (words : List (List ℕ)) (result : Result ℕ Fault) (input left old new : Option (List ℕ)) : Type 0 where
  pub carries : IfOk result (λ s. Carries allowed words input s old new)
  pub unread : words_read_input words ≡ false → left ≡ input
  pub kept : IfErr result (λ e. e ≢ fault.Write → Keeps old new)

-- words have one output at most, if the bytes of the input are known or the command does not read it
abbrev pub HaveOneOutput : Allowed → List (List ℕ) → Option (List ℕ) → Type 0
HaveOneOutput allowed words input = (words_read_input words ≡ true → input ≢ None)
    → (one other : Output) → IsOutputOf allowed (command_of words) input one → IsOutputOf allowed (command_of words) input other → one ≡ other
