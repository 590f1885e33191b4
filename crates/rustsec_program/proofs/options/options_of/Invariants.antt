use Rattle.std.proofs.Common.{◌≡◌, map}
use Rattle.rustsec_program.specs.CheckOptions.{options_of}
use Rattle.rustsec_program.specs.Steps.{item_view}
use Rattle.rustsec_program.proofs.OptionWords.{before_all, rest_of}
use Rattle.rustsec_program.proofs.options.options_of.Given as goal

-- all words name the options so far, and after them the options that the words that are left name
abbrev pub invariant-loop-word : goal.invariant-loop-word
invariant-loop-word l = options_of (map (λ w. w.now) l.words) ≡ before_all (map item_view l.items.items) (rest_of l.awaits l.words l.word-index)
