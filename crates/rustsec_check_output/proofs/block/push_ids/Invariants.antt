use Rattle.std.proofs.Common.{◌≡◌, ◌++◌, flat_map, map, string_bytes, take}
use Rattle.rustsec_check_output.specs.CheckText.{id_words}
use Rattle.rustsec_check_output.proofs.block.push_ids.Given as goal

abbrev pub invariant-loop-id : goal.invariant-loop-id
invariant-loop-id l = string_bytes l.text ≡ string_bytes l.fn.text ++ flat_map id_words (map (λ i. i.now) (take l.id-index l.ids))
