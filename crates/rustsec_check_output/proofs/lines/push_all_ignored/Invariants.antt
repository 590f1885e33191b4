use Rattle.std.proofs.Common.{◌≡◌, ◌++◌, flat_map, string_bytes, take}
use Rattle.rustsec_check_output.specs.CheckText.{ignored_line}
use Rattle.rustsec_check_output.proofs.lines.push_all_ignored.Given as goal

abbrev pub invariant-loop-pair : goal.invariant-loop-pair
invariant-loop-pair l = string_bytes l.text ≡ string_bytes l.fn.text ++ flat_map (ignored_line l.entries) (take l.pair-index l.pairs)
