use Rattle.std.proofs.Common.{◌≡◌, ◌++◌, flat_map, map, string_bytes, take}
use Rattle.rustsec_check_output.specs.CheckText.{unused_line}
use Rattle.rustsec_check_output.proofs.lines.push_unused.Given as goal

abbrev pub invariant-loop-id : goal.invariant-loop-id
invariant-loop-id l = string_bytes l.text ≡ string_bytes l.fn.text ++ flat_map unused_line (map (λ i. i.now) (take l.id-index l.ids))
