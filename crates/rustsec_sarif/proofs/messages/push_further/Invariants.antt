use Rattle.std.proofs.Common.{◌≡◌, ◌++◌, map, string_bytes, take}
use Rattle.rustsec_versions.specs.Views.{comparators_of}
use Rattle.rustsec_sarif.specs.SarifWords.{further_words}
use Rattle.rustsec_sarif.proofs.messages.push_further.Given as goal

abbrev pub invariant-loop-req : goal.invariant-loop-req
invariant-loop-req l = string_bytes l.text ≡ string_bytes l.fn.text ++ further_words (map comparators_of (take l.req-index l.reqs))
