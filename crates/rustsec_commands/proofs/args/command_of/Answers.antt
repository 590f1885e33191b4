use Rattle.std.proofs.Common.{rules}
use Rattle.rustsec_commands.proofs.lemmas.args.Unknown as words
use Rattle.rustsec_commands.proofs.args.command_of.Goals as goal
use Rattle.rustsec_commands.proofs.args.command_of.Goals.{in_default-via-else-words-lt1+else-words-lt2+else-words-lt3+else-words-lt4+in_default, in_default-via-else-words-lt1+else-words-lt2+else-words-lt3+then-words-lt4+in_default, in_default-via-else-words-lt1+else-words-lt2+then-words-lt3+in_default, in_default-via-else-words-lt1+then-words-lt2+in_default, in_default-via-then-words-lt1}

pub returns-in_default : goal.returns-in_default
returns-in_default c = elim c.in_default.branch [
  | in_default-via-then-words-lt1 w ↦ search (rules, words.no-word)
  | in_default-via-else-words-lt1+then-words-lt2+in_default w ↦ search (rules, words.one-word)
  | in_default-via-else-words-lt1+else-words-lt2+then-words-lt3+in_default w ↦ search (rules, words.two-words)
  | in_default-via-else-words-lt1+else-words-lt2+else-words-lt3+then-words-lt4+in_default w ↦ search (rules, words.three-words)
  | in_default-via-else-words-lt1+else-words-lt2+else-words-lt3+else-words-lt4+in_default w ↦ search (rules, words.more-words)
]
