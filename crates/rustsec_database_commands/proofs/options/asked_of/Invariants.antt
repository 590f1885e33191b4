use Rattle.std.proofs.Common.{map}
use Rattle.rustsec_database_commands.specs.Options.{options_of}
use Rattle.rustsec_database_commands.specs.Steps.{asked_view}
use Rattle.rustsec_database_commands.proofs.OptionWords.{IsReading, rest_of}
use Rattle.rustsec_database_commands.proofs.options.asked_of.Given as goal

-- some options so far, and after them those that the words that are left name, are the options of all words
abbrev pub invariant-loop-word : goal.invariant-loop-word
invariant-loop-word l = IsReading (options_of (map (λ w. w.now) l.words)) (asked_view l.asked) (rest_of l.awaits l.words l.word-index)
