use Rattle.std.proofs.Common.{◌≡◌, ◌++◌, string_bytes, take}
use Rattle.rustsec_explain_output.specs.ExplainText.{further_words}
use Rattle.rustsec_explain_output.proofs.text.push_further.Given as goal

-- the words of the reasons so far
abbrev pub invariant-loop-reason : goal.invariant-loop-reason
invariant-loop-reason l =
    string_bytes l.words ≡ string_bytes l.fn.words ++ further_words l.rules l.pair (take l.reason-index l.reasons)
