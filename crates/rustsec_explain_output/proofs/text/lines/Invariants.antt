use Rattle.std.proofs.Common.{◌≡◌, flat_map, string_bytes, take}
use Rattle.rustsec_explain_output.specs.ExplainText.{pair_line}
use Rattle.rustsec_explain_output.proofs.text.lines.Given as goal

-- the lines of the pairs so far
abbrev pub invariant-loop-pair : goal.invariant-loop-pair
invariant-loop-pair l = string_bytes l.text ≡ flat_map (pair_line l.rules) (take l.pair-index l.pairs)
