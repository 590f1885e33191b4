use Rattle.std.proofs.Common.{◌≡◌, map}
use Rattle.rustsec_commands.specs.args.Options.{options_of}
use Rattle.rustsec_commands.proofs.lemmas.args.OptionWords.{followed_by_all, rest_of}
use Rattle.rustsec_commands.proofs.args.options.options_of.Given as goal

-- all words name the options so far, and after them the options that the words that are left name
abbrev pub invariant-loop-word : goal.invariant-loop-word
invariant-loop-word l =
    options_of (map (λ w. w.now) l.words)
    ≡ followed_by_all (record { ignored = map (λ t. t.now) l.ignored.items; deny_warnings = l.deny_warnings }) (rest_of l.awaits_id l.words l.word-index)
